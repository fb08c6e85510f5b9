use Rattle.std.proofs.Common.{sym, ◌∙◌}
use Rattle.quilt_types.proofs.Truths.{none_from}
use Rattle.quilt_node.proofs.inner.inner_of.Goals as goal

pub returns-then-not-is_inner-clause-inner : goal.returns-then-not-is_inner-clause-inner
returns-then-not-is_inner-clause-inner c = sym (none_from _ (sym c.is_inner.ensures ∙ c.if-not-is_inner.true))
