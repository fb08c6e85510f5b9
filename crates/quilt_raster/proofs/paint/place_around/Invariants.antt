use Rattle.std.proofs.Common.{ℕ, ◌<◌, ◌≤◌, ◌-◌, length, get_or}
use Rattle.quilt_types.specs.declared.plane.Block.{Block}
use Rattle.quilt_loc.specs.Codes.{code_from}
use Rattle.quilt_blocks.specs.Cutting.{leaves_by_code}
use Rattle.quilt_raster.proofs.paint.place_around.Given as goal

abbrev pub invariant-loop-high : goal.invariant-loop-high
invariant-loop-high l = record {
  some : l.low < l.high;
  inside : l.high ≤ length (leaves_by_code l.list.level l.list.grid);
  from : (d : Block × ℕ) → code_from (get_or (leaves_by_code l.list.level l.list.grid) l.low d).0 ≤ l.code;
  to : (d : Block × ℕ) → l.high < length (leaves_by_code l.list.level l.list.grid)
      → l.code < code_from (get_or (leaves_by_code l.list.level l.list.grid) l.high d).0;
}

abbrev pub decreases-loop-high : goal.decreases-loop-high
decreases-loop-high l = l.high - l.low
