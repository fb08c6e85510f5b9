use Rattle.std.proofs.Common.{◌≡◌, ◌*◌, ◌∙◌, ap₂, arith}
use Rattle.quilt_raster.proofs.Cells.{IsFilled-row}
use Rattle.quilt_raster.proofs.paint.fill.Goals as goal

pub loop-dy-preserved : goal.loop-dy-preserved
loop-dy-preserved c =
    let w = c.args.w in
    let dy = c.loop-dy.dy in
    let at : c.from.result * c.from-in-loop-dy.result ≡ dy * w.w = ap₂ (λ a b. a * b) c.from.ensures c.from-in-loop-dy.ensures in
    let a = c.saturating_sub.ensures in
    let l = c.from-left.ensures in
    let b = c.saturating_sub-2.ensures in
    let m = c.min.ensures in
    let r = c.from-right.ensures in
    let t = c.saturating_sub-top.ensures in
    let u = c.saturating_sub-3.ensures in
    let v = c.min-bottom.ensures in
    let low = c.loop-dy.auto.dy in
    let high = c.loop-dy-test.true in
    let f = c.fill_run.ensures in
    record {
      long = f.long ∙ c.loop-dy.invariant.long;
      filled = IsFilled-row w c.args.b c.args.colour dy c.from-left.result c.from-right.result c.args.cells.now c.loop-dy.cells c.fill_run.new.cells
          (omega arith) (omega arith) (omega arith) (λ dx lw lb. omega arith) (omega arith) (omega arith)
          (λ k from to. f.inside k (omega arith) (omega arith)) (λ k lt. f.before k (omega arith))
          (λ k le. f.behind k (omega arith)) c.loop-dy.invariant.filled;
    }
