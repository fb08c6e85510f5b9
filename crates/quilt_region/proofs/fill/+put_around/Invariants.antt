use Rattle.std.proofs.Common.{◌≡◌, ◌+◌, ◌*◌, ◌/◌, length}
use Rattle.quilt_types.specs.Layers.{Grid}
use Rattle.quilt_loc.specs.Codes.{code_from}
use Rattle.quilt_region.specs.Painting.{HasColours}
use Rattle.quilt_region.specs.Windows.{records_within, known_colour}
use Rattle.quilt_region.proofs.fill.+put_around.Given as goal

abbrev pub decreases-put_around : goal.decreases-put_around
decreases-put_around l = l.b.side

abbrev pub invariant-loop-q : goal.invariant-loop-q
invariant-loop-q l = record {
  level : l.maker.level ≡ l.level;
  long : length l.maker.colours ≡ code_from l.fn.b + l.q-index * (l.fn.b.side / 2 * (l.fn.b.side / 2));
  colours : (g : Grid) → l.records ≡ records_within l.level l.layer g l.known.read
      → HasColours l.level (known_colour l.level g l.known) l.initial.maker.colours → HasColours l.level (known_colour l.level g l.known) l.maker.colours;
}
