use Rattle.std.proofs.Common.{◌+◌, ◌*◌, ◌/◌}
use Rattle.quilt_loc.specs.Codes.{code_from}
use Rattle.quilt_blocks.specs.Adding.{AddsColours}
use Rattle.quilt_buffer.specs.Reach.{within_reach}
use Rattle.quilt_buffer.proofs.zone.+fill.Given as goal

abbrev pub decreases-fill : goal.decreases-fill
decreases-fill l = l.square.side

abbrev pub invariant-loop-quarter : goal.invariant-loop-quarter
invariant-loop-quarter l = AddsColours l.initial.maker.level (within_reach l.r l.close.items)
    (code_from l.fn.square + l.quarter-index * (l.fn.square.side / 2 * (l.fn.square.side / 2))) l.initial.maker l.maker
