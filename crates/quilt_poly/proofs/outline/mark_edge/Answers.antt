use Rattle.std.proofs.Common.{◌≡◌, arith}
use Rattle.quilt_poly.specs.Edges.{crosses}
use Rattle.quilt_poly.proofs.Crossed.{none_crosses}
use Rattle.quilt_poly.proofs.Marks.{IsMarked-none}
use Rattle.quilt_poly.proofs.outline.mark_edge.Goals.{then-e-via-then-e, then-e-via-else-e+then-side-from}
use Rattle.quilt_poly.proofs.outline.mark_edge.Goals as goal

pub returns-then-e : goal.returns-then-e
returns-then-e c =
    let e = c.args.e in
    elim c.then-e.branch [
      | then-e-via-then-e w ↦
          let le = w.if-e.true in
          IsMarked-none c.args.side (λ p. crosses p e) c.args.words.now (λ p py. none_crosses e p (omega arith))
      | then-e-via-else-e+then-side-from w ↦
          let top : w.from.result ≡ e.top.y = w.from.ensures in
          let le = w.if-side-from.true in
          IsMarked-none c.args.side (λ p. crosses p e) c.args.words.now (λ p py. none_crosses e p (omega arith))
    ]
