use Rattle.std.proofs.Common.{◌≡◌, drop}
use Rattle.quilt_types.specs.Algebra.{recoloured_by}
use Rattle.quilt_overlay.specs.Combining.{numbers_of}
use Rattle.quilt_overlay.proofs.colours.new_colour.Given as goal

abbrev pub invariant-loop-old : goal.invariant-loop-old
invariant-loop-old l = recoloured_by (numbers_of (drop l.old-index l.pairs)) l.c.0 ≡ recoloured_by (numbers_of l.pairs) l.c.0
