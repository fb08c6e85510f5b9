use Rattle.std.proofs.Common.{sym, ◌∙◌}
use Rattle.quilt_types.proofs.Truths.{none_from}
use Rattle.quilt_node.proofs.leaf.leaf_of.Goals as goal

pub returns-then-not-is_leaf : goal.returns-then-not-is_leaf
returns-then-not-is_leaf c = sym (none_from _ (sym c.is_leaf.ensures ∙ c.if-not-is_leaf.true))
