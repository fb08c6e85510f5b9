use Rattle.std.proofs.Common.{◌+◌, ◌*◌, ◌/◌}
use Rattle.quilt_types.specs.Plane.{side}
use Rattle.quilt_loc.specs.Codes.{code_from}
use Rattle.quilt_blocks.specs.Adding.{AddsColours}
use Rattle.quilt_poly.specs.Bits.{colour_in}
use Rattle.quilt_poly.proofs.fill.+fill.Given as goal

abbrev pub decreases-fill : goal.decreases-fill
decreases-fill l = l.square.side

abbrev pub invariant-loop-quarter : goal.invariant-loop-quarter
invariant-loop-quarter l =
    AddsColours l.level (colour_in l.words (side l.level) l.c.0)
    (code_from l.fn.square + l.quarter-index * (l.fn.square.side / 2 * (l.fn.square.side / 2))) l.initial.maker l.maker
