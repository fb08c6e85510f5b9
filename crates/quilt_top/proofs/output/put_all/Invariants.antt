use Rattle.std.proofs.Common.{◌≡◌, ◌≤◌, ◌-◌, length, take}
use Rattle.quilt_world.specs.Added.{AddsOnly, is_of_text}
use Rattle.quilt_world.specs.Tale.{Goes}
use Rattle.quilt_top.specs.Saying.{Says}
use Rattle.quilt_top.proofs.output.put_all.Given as goal

abbrev pub invariant-loop-done : goal.invariant-loop-done
invariant-loop-done g l = record {
  within : l.done ≤ length l.bytes;
  door : g.W.Disk.door l.world ≡ g.W.Disk.door l.initial.world;
  faults : g.W.Disk.faults l.initial.world ≤ g.W.Disk.faults l.world;
  tale : Goes (Says (take l.done l.bytes)) (g.W.Disk.told l.initial.world) (g.W.Disk.told l.world);
  text : Goes (AddsOnly is_of_text) (g.W.Disk.told l.initial.world) (g.W.Disk.told l.world);
}

abbrev pub decreases-loop-done : goal.decreases-loop-done
decreases-loop-done g l = length l.bytes - l.done
