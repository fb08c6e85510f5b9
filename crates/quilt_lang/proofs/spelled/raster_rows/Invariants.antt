use Rattle.quilt_lang.proofs.Joins.{RowsSoFar}
use Rattle.quilt_lang.proofs.spelled.raster_rows.Given as goal

abbrev pub invariant-loop-line : goal.invariant-loop-line
invariant-loop-line l = RowsSoFar l.format l.width (λ w. w.now) l.lines l.line-index l.rows
