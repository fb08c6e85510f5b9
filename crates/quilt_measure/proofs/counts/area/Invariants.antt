use Rattle.std.proofs.Common.{◌≡◌, sum_by, take}
use Rattle.quilt_blocks.specs.Cutting.{leaves_by_code}
use Rattle.quilt_measure.proofs.Parts.{part}
use Rattle.quilt_measure.proofs.counts.area.Given as goal

abbrev pub invariant-loop-i : goal.invariant-loop-i
invariant-loop-i l = l.sum ≡ sum_by (part l.c.0) (take l.i (leaves_by_code l.a.level l.a.grid))
