use Rattle.std.proofs.Common.{◌≡◌, ℕ, ◌*◌, map, replicate}
use Rattle.std.specs.List.{range_with_len}
use Rattle.quilt_record.specs.declared.record.Record.{Record}
use Rattle.quilt_btree_tests.proofs.pages.leaf_from.Given as goal

abbrev item_row : ℕ → Record
item_row i = record { key = record { layer = 1; part = 4; code = 0; depth = 0; item = 2 * i }; value = replicate 16 7 }

-- the records so far
abbrev pub invariant-loop-i : goal.invariant-loop-i
invariant-loop-i l = l.leaf ≡ map item_row (range_with_len l.first l.i)
