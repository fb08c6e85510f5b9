use Rattle.std.proofs.Common.{◌≡◌, ◌++◌, length}
use Rattle.quilt_blocks.specs.Cutting.{leaves_by_code}
use Rattle.quilt_select.specs.Regions.{coloured_windows as coloured_windows_of}
use Rattle.quilt_select.proofs.selection.coloured_windows.Given as goal

abbrev pub invariant-loop-leaf : goal.invariant-loop-leaf
invariant-loop-leaf l = l.windows.items ++ coloured_windows_of l.leaves.rest ≡ coloured_windows_of (leaves_by_code l.list.level l.list.grid)

abbrev pub decreases-loop-leaf : goal.decreases-loop-leaf
decreases-loop-leaf l = length l.leaves.rest
