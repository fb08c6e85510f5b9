use Rattle.std.proofs.Common.{suc, pow-suc, arith}
use Rattle.quilt_region.proofs.Covers.{doubled_le}
use Rattle.quilt_region.proofs.window.side_over.Goals.{then-side-w, else-side-w+then-side-w-2}
use Rattle.quilt_region.proofs.window.side_over.Goals as goal

pub loop-side-preserved : goal.loop-side-preserved
loop-side-preserved c =
    let inv = c.loop-side.invariant in
    let i = inv.power.0 in
    let e = inv.power.1 in
    let p = pow-suc 2 i in
    record {
      power = (suc i, omega arith);
      least = λ k wide high. doubled_le c.loop-side.side i k e
          (elim c.if-side-w.branch [
            | then-side-w w ↦ (let less = w.if-side-w.true in omega arith)
            | else-side-w+then-side-w-2 w ↦ (let less = w.if-side-w-2.true in omega arith)
          ]);
    }
