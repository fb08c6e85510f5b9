use Rattle.std.proofs.Common.{◌≡◌, ℕ, ◌+◌, ◌*◌, ◌/◌, length}
use Rattle.quilt_types.specs.declared.plane.Pixel.{Pixel}
use Rattle.quilt_types.specs.Plane.{Holds}
use Rattle.quilt_loc.specs.Codes.{code_from}
use Rattle.quilt_region.specs.Painting.{colour_over, HasColours}
use Rattle.quilt_region.proofs.paint.+put_block.Given as goal

abbrev pub decreases-put_block : goal.decreases-put_block
decreases-put_block l = l.b.side

abbrev pub invariant-loop-q : goal.invariant-loop-q
invariant-loop-q l = record {
  level : l.maker.level ≡ l.initial.maker.level;
  long : length l.maker.colours ≡ code_from l.fn.b + l.q-index * (l.fn.b.side / 2 * (l.fn.b.side / 2));
  colours : (f : Pixel → ℕ) → ((p : Pixel) → Holds l.fn.b p → f p ≡ colour_over l.w l.c.0 l.old.0 p)
      → HasColours l.initial.maker.level f l.initial.maker.colours → HasColours l.initial.maker.level f l.maker.colours;
}
