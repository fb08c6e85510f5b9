use Rattle.std.proofs.Common.{◌≡◌, ◌++◌, map, length}
use Rattle.quilt_spell.specs.OfLayer.{leaf_record}
use Rattle.quilt_region.specs.Regions.{region_records}
use Rattle.quilt_region.proofs.plan.plan_new.Given as goal

abbrev pub invariant-loop-leaf : goal.invariant-loop-leaf
invariant-loop-leaf l = record {
  made : l.add ++ map (leaf_record l.list.level l.layer) l.leaves.rest ≡ region_records l.list.level l.layer l.list.grid;
  same_level : l.leaves.level ≡ l.list.level;
}

abbrev pub decreases-loop-leaf : goal.decreases-loop-leaf
decreases-loop-leaf l = length l.leaves.rest
