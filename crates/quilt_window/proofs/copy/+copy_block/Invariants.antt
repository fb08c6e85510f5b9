use Rattle.std.proofs.Common.{◌≡◌, ◌+◌, ◌*◌, ◌/◌, length}
use Rattle.quilt_loc.specs.Codes.{code_from}
use Rattle.quilt_blocks.specs.Adding.{AddsColours}
use Rattle.quilt_window.specs.Copying.{copied_colour}
use Rattle.quilt_window.proofs.copy.+copy_block.Given as goal

abbrev pub decreases-copy_block : goal.decreases-copy_block
decreases-copy_block l = l.b.side

abbrev pub invariant-loop-q : goal.invariant-loop-q
invariant-loop-q l = record {
  added :
      AddsColours l.a.level (copied_colour l.a.level l.a.grid l.across l.down) (code_from l.fn.b + l.q-index * (l.fn.b.side / 2 * (l.fn.b.side / 2))) l.initial.maker l.maker;
  room : length l.cells ≡ 1024;
}
