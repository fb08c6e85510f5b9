use Rattle.std.proofs.Common.{◌≡◌, ◌+◌, ◌-◌, ◌≤◌, [], ◌∷◌, ◌++◌}
use Rattle.quilt_blocks.specs.Cutting.{leaf_pair}
use Rattle.quilt_loc.specs.Codes.{code_from}
use Rattle.quilt_spell.specs.OfLayer.{leaf_record}
use Rattle.quilt_region.specs.Plans.{GoOnWithin}
use Rattle.quilt_region.proofs.comparison.add_up_to.Given as goal

abbrev pub decreases-loop-done : goal.decreases-loop-done
decreases-loop-done l = l.size - l.done

abbrev pub invariant-loop-done : goal.invariant-loop-done
invariant-loop-done l = record {
  level : l.leaves.level ≡ l.initial.leaves.level;
  grid : l.leaves.grid ≡ l.initial.leaves.grid;
  some : 1 ≤ l.done;
  most : l.done ≤ l.size;
  at : l.leaves.at ≡ code_from l.fn.whole + l.done;
  made : GoOnWithin l.level l.layer l.initial.leaves.grid l.fn.whole (l.fn.records ++ leaf_record l.level l.layer (leaf_pair l.fn.first) ∷ []) l.records
      l.initial.leaves.rest l.leaves.rest;
}
