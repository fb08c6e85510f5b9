use Rattle.std.proofs.Common.{◌<◌, ◌∙◌, arith}
use Rattle.quilt_btree.proofs.lists.Fitting.{under_last}
use Rattle.quilt_btree.proofs.insertion.is_over.Goals as goal

pub returns-else-i-eq0 : goal.returns-else-i-eq0
returns-else-i-eq0 c =
    let ne = c.if-i-eq0.false in
    let some : 0 < c.args.i = omega arith in
    c.precedes.ensures ∙ under_last c.args.inner.now.keys c.args.i c.key.result c.args.k.now c.len.ensures.is.ascends some c.key.ensures
