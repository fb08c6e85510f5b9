use Rattle.std.proofs.Common.{ap, sym, ◌∙◌}
use Rattle.quilt_node.specs.Pages.{Inner}
use Rattle.quilt_btree.proofs.lists.Cuts.{last_again}
use Rattle.quilt_btree.proofs.balance.share_children.Goals as goal

pub returns-then-len-lt-LEAST_CHILDREN-2-clause-keys : goal.returns-then-len-lt-LEAST_CHILDREN-2-clause-keys
returns-then-len-lt-LEAST_CHILDREN-2-clause-keys c =
    last_again c.args.left.now.keys c.args.right.now.keys c.args.key.now c.from_left.result
    (sym c.len.ensures.length ∙ c.len.ensures.keys) c.from_left.ensures.key (ap (λ (p : Inner). p.keys) c.from_left.ensures.there)
    (ap (λ (p : Inner). p.keys) c.from_left.ensures.here)
