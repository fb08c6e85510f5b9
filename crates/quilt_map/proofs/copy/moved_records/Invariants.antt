use Rattle.std.proofs.Common.{◌≡◌, map, take}
use Rattle.quilt_spell.specs.Copying.{renumbered}
use Rattle.quilt_map.proofs.copy.moved_records.Given as goal

abbrev pub invariant-loop-r : goal.invariant-loop-r
invariant-loop-r l = l.copies.items ≡ map (renumbered l.number) (take l.r-index l.records)
