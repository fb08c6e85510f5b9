use Rattle.std.proofs.Common.{◌≡◌, ◌+◌, length}
use Rattle.quilt_loc.specs.Codes.{code_from}
use Rattle.quilt_blocks.specs.Adding.{AddsColours}
use Rattle.quilt_par.specs.declared.part.Part.TheVariants.{Leaves}
use Rattle.quilt_par.specs.Parts.{moved_colour}
use Rattle.quilt_par.proofs.part.put_leaves.Given as goal

abbrev pub invariant-loop-leaf : goal.invariant-loop-leaf
invariant-loop-leaf l = record {
  same_level : l.leaves.level ≡ l.list.level;
  same_grid : l.leaves.grid ≡ l.list.grid;
  adds : AddsColours l.initial.maker.level (moved_colour l.b (Leaves l.list)) (code_from l.b + l.leaves.at) l.initial.maker l.maker;
}

abbrev pub decreases-loop-leaf : goal.decreases-loop-leaf
decreases-loop-leaf l = length l.leaves.rest
