use Rattle.std.proofs.Common.{◌≡◌, ◌+◌, ◌%◌, ◌<◌, take, count_by}
use Rattle.quilt_types.specs.declared.plane.Pixel.{Pixel}
use Rattle.quilt_poly.specs.Edges.{crosses}
use Rattle.quilt_poly.specs.Bits.{ones_right}
use Rattle.quilt_poly.proofs.outline.mark_edges.Given as goal

abbrev pub invariant-loop-e : goal.invariant-loop-e
invariant-loop-e l = (p : Pixel) → p.x < l.side → p.y < l.side
    → ones_right l.words l.side p.y p.x % 2 ≡ (ones_right l.initial.words l.side p.y p.x + count_by (crosses p) (take l.e-index l.edges)) % 2
