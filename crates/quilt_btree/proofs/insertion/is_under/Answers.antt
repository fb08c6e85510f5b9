use Rattle.std.proofs.Common.{◌∙◌}
use Rattle.quilt_btree.proofs.lists.Fitting.{over_first}
use Rattle.quilt_btree.proofs.insertion.is_under.Goals as goal

pub returns-else-i-len : goal.returns-else-i-len
returns-else-i-len c = c.precedes.ensures ∙ over_first c.args.inner.now.keys c.args.i c.key.result c.args.k.now c.len.ensures.is.ascends c.key.ensures
