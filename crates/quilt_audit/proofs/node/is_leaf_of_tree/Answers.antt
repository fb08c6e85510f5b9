use Rattle.std.proofs.Common.{◌≡◌, true, false, sym, ◌∙◌}
use Rattle.quilt_audit.proofs.Ends.{leaf_kept, leaf_left}
use Rattle.quilt_audit.proofs.Walked.{from_to}
use Rattle.quilt_audit.proofs.node.is_leaf_of_tree.Goals as goal

pub returns-then-has_its_minimum-clause-yes : goal.returns-then-has_its_minimum-clause-yes
returns-then-has_its_minimum-clause-yes c t page visited =
    leaf_kept c.args.bytes.now c.args.is_root (from_to c.args.low.now c.args.high.now) page visited (sym c.is_leaf.ensures ∙ c.if-not-is_leaf.false)
    (sym c.has_its_minimum.ensures ∙ c.if-has_its_minimum.true) (sym c.leaf_is_within.ensures ∙ t)

pub returns-then-has_its_minimum-clause-no : goal.returns-then-has_its_minimum-clause-no
returns-then-has_its_minimum-clause-no c f page visited =
    leaf_left c.args.bytes.now c.args.is_root (from_to c.args.low.now c.args.high.now) page visited (sym c.is_leaf.ensures ∙ c.if-not-is_leaf.false)
    (λ t. sym c.leaf_is_within.ensures ∙ f)

pub returns-else-has_its_minimum-clause-no : goal.returns-else-has_its_minimum-clause-no
returns-else-has_its_minimum-clause-no c f page visited =
    leaf_left c.args.bytes.now c.args.is_root (from_to c.args.low.now c.args.high.now) page visited (sym c.is_leaf.ensures ∙ c.if-not-is_leaf.false)
    (λ t. let clash : false ≡ true = sym c.if-has_its_minimum.false ∙ c.has_its_minimum.ensures ∙ t in cc)
