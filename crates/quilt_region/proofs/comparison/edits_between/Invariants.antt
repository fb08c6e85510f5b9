use Rattle.std.proofs.Common.{◌≡◌, ◌-◌, ◌^◌}
use Rattle.quilt_region.specs.Plans.{records_without, AreSoFar}
use Rattle.quilt_region.proofs.Leaves.{only_test}
use Rattle.quilt_region.proofs.comparison.edits_between.Given as goal

abbrev pub decreases-loop-a : goal.decreases-loop-a
decreases-loop-a l = 2 ^ 32 - l.olds.at

abbrev pub invariant-loop-a : goal.invariant-loop-a
invariant-loop-a l = record {
  old_level : l.olds.level ≡ l.old.level;
  old_grid : l.olds.grid ≡ l.old.grid;
  new_level : l.news.level ≡ l.old.level;
  new_grid : l.news.grid ≡ l.new.grid;
  place : l.olds.at ≡ l.news.at;
  removed : AreSoFar l.old.level l.layer (only_test l.old.level l.new.grid) l.remove l.olds.rest (records_without l.old.level l.layer l.old.grid l.new.grid);
  added : AreSoFar l.old.level l.layer (only_test l.old.level l.old.grid) l.add l.news.rest (records_without l.old.level l.layer l.new.grid l.old.grid);
}
