use Rattle.std.proofs.Common.{◌+◌, ◌*◌, ◌/◌}
use Rattle.quilt_types.specs.Plane.{IsBlock}
use Rattle.quilt_loc.specs.Codes.{code_from}
use Rattle.quilt_blocks.specs.Adding.{AddsColours}
use Rattle.quilt_raster.specs.Bytes.{cell_colours, from_corner}
use Rattle.quilt_par.specs.Parts.{at_corner}
use Rattle.quilt_tally.proofs.Room.{IsJoining}
use Rattle.quilt_par.proofs.counted.+add_counted.Given as goal

abbrev pub decreases-add_counted : goal.decreases-add_counted
decreases-add_counted l = l.b.side

abbrev pub invariant-loop-place : goal.invariant-loop-place
invariant-loop-place l = record {
  adds : AddsColours l.initial.maker.level (from_corner l.level (cell_colours l.colours) l.corner)
      (code_from l.fn.b + l.place * (l.fn.b.side / 2 * (l.fn.b.side / 2))) l.initial.maker l.maker;
  joining : IsBlock l.level (at_corner l.corner l.fn.b)
      → IsJoining l.level (cell_colours l.colours) (at_corner l.corner l.fn.b) l.place l.tallies l.room l.fn.most;
}
