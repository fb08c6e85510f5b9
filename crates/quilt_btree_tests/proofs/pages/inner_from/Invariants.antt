use Rattle.std.proofs.Common.{◌≡◌, ℕ, ◌+◌, ◌-◌, ◌*◌, map}
use Rattle.std.specs.List.{range_with_len}
use Rattle.quilt_record.specs.declared.key.Key.{Key}
use Rattle.quilt_btree_tests.proofs.pages.inner_from.Given as goal

abbrev item_key : ℕ → Key
item_key i = record { layer = 1; part = 4; code = 0; depth = 0; item = 2 * i }

-- the children so far, and the keys between them
abbrev pub invariant-loop-i : goal.invariant-loop-i
invariant-loop-i l = l.inner ≡ record {
  height = 2;
  children = range_with_len (l.first + 1) l.i;
  keys = map item_key (range_with_len (l.first + 1) (l.i - 1));
}
