use Rattle.std.proofs.Common.{ap, ◌∙◌, ◌-◌}
use Rattle.quilt_btree.proofs.lists.Ascents.{leaves_test}
use Rattle.quilt_btree.proofs.balance.leaves_ascend.Goals as goal

pub returns : goal.returns
returns c =
    c.precedes.ensures ∙ leaves_test c.args.left.now c.args.right.now
    (ap (λ n. n - 1) c.len-2.ensures.length)
    c.rec-last.ensures c.rec-first.ensures c.len-2.ensures.is.ascends c.len.ensures.is.ascends
