use Rattle.std.proofs.Common.{◌≡◌, ◌*◌, ◌/◌, [], length}
use Rattle.quilt_types.specs.Plane.{side}
use Rattle.quilt_types.specs.Layers.{Grid, colour_at}
use Rattle.quilt_blocks.specs.Adding.{AddsColours}
use Rattle.quilt_par.specs.Parts.{ShowAll}
use Rattle.quilt_par.proofs.part.merged.Given as goal

abbrev pub invariant-loop-number : goal.invariant-loop-number
invariant-loop-number l = record {
  level : l.maker.level ≡ l.level;
  long : length l.maker.colours ≡ l.number * (side l.level / 2 * (side l.level / 2));
  adds : (g : Grid) → ShowAll l.level g l.parts
      → AddsColours l.level (colour_at l.level g) (l.number * (side l.level / 2 * (side l.level / 2))) (record { level = l.level; colours = [] }) l.maker;
}
