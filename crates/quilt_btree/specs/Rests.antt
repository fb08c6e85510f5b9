-- How the records of a range are added leaf by leaf.
use Rattle.std.specs.Prelude.{◌≡◌, ℕ, ◌<◌, ◌≤◌, true, IfOk, IfSome, OnOk, List, Option, None, Result}
use Rattle.std.specs.List.{list_all}
use Rattle.std.specs.Ordering.{is_le, is_lt}
use Rattle.quilt_types.specs.declared.stop.Stop.{Stop}
use Rattle.quilt_record.specs.declared.key.Key.{Key}
use Rattle.quilt_record.specs.declared.record.Record.{Record}
use Rattle.quilt_record.specs.Records.{key_cmp}
use Rattle.quilt_btree.specs.declared.tree.Tree.{Tree}
use Rattle.quilt_btree.specs.Lists.{is_from_to, range_of}
use Rattle.quilt_btree.specs.Trees.{IsTree, Before}

-- the records have grown to at most so many, none was lost, and those from a key on stay within their range
pub record GrowsWithin {T : Type 0} (most : ℕ) (from high : Key) (had has : ℕ) (old new : List Record) (result : Result T Stop) : Type 0 where
  pub room : OnOk result (has ≤ most)
  pub within : OnOk result ((low : Key) → is_le (key_cmp low from) ≡ true → list_all (is_from_to low high) old ≡ true
      → list_all (is_from_to low high) new ≡ true)
  pub more : OnOk result (had ≤ has)

-- What one leaf adds to the records of a range: all that are left of it where no key is answered, and else some, as far as that key, which lies further on.
pub record GoesOnTo (told : Option (List (List ℕ))) (t : Tree) (most : ℕ) (from high : Key) (had has : ℕ) (old new : List Record)
    (result : Result (Option Key) Stop) : Type 0 where
  pub ends : IfOk result (λ next. next ≡ None → (low : Key) (rs : List Record) → IsTree told t rs
      → Before told t low high most from rs old → new ≡ range_of low high most rs)
  pub goes_on : IfOk result
      (λ next. IfSome next (λ k. (low : Key) (rs : List Record) → IsTree told t rs → Before told t low high most from rs old
      → Before told t low high most k rs new))
  pub adds : IfOk result (λ next. IfSome next (λ k. had < has))
  pub further : IfOk result (λ next. IfSome next (λ k. is_lt (key_cmp from k) ≡ true))
