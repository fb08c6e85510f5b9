use Rattle.std.proofs.Common.{arith}
use Rattle.quilt_lang.proofs.Joins.{rows_none, rows_more, rows_fail, rows_end}
use Rattle.quilt_lang.proofs.spelled.raster_rows.Goals as goal

pub loop-line-init : goal.loop-line-init
loop-line-init c = rw c.new-rows.ensures (rows_none c.args.format c.args.width (λ w. w.now) c.args.lines.now)

pub loop-line-preserved : goal.loop-line-preserved
loop-line-preserved c =
    let is = rw c.if-not-is_row.false at c.in_ok-is_row.ensures in
    rw (c.in_ok-push.ensures.ok, c.deref.ensures.value)
    (rows_more c.args.format c.args.width (λ w. w.now) c.args.lines.now c.loop-line.line-index _ c.loop-line.rows _ (omega arith) c.loop-line.invariant is)

pub returns-then-not-is_row : goal.returns-then-not-is_row
returns-then-not-is_row c =
    let is = rw c.if-not-is_row.true at c.in_ok-is_row.ensures in
    rows_fail c.args.format c.args.width (λ w. w.now) c.args.lines.now c.loop-line.line-index _ c.loop-line.rows (omega arith) c.loop-line.invariant is

pub returns : goal.returns
returns c = rows_end c.args.format c.args.width (λ w. w.now) c.args.lines.now c.loop-line.line-index c.loop-line.rows (omega arith) c.loop-line.invariant
