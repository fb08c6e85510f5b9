-- The keys and the children that stand in a page's bytes.
use Rattle.std.specs.Prelude.{◌≡◌, ℕ, suc, ◌+◌, ◌*◌, ◌^◌, ◌<◌, ◌≤◌, true, List, map, length, take, drop, Some, slice_get}
use Rattle.std.specs.List.{list_all}
use Rattle.std.specs.Ordering.{is_lt}
use Rattle.quilt_types.specs.Plane.{below}
use Rattle.quilt_record.specs.declared.key.Key.{Key}
use Rattle.quilt_record.specs.Records.{key_cmp}
use Rattle.quilt_node.specs.Pages.{key_at, word_at}

-- a key as one number: its first eight bytes, and its last four below them
unfoldable pub key_number : Key → ℕ
key_number k = k.layer * 2 ^ 112 + (k.part * 2 ^ 104 + (k.code * 2 ^ 72 + (k.depth * 2 ^ 64 + k.item)))

-- the fields behind the first fit the bytes that they have
pub record FieldsFit (k : Key) : Type 0 where
  pub part : k.part < 2 ^ 8
  pub code : k.code < 2 ^ 32
  pub depth : k.depth < 2 ^ 8
  pub item : k.item < 2 ^ 32

-- n keys from a place on, each so many bytes behind the one before
abbrev pub keys_in : List ℕ → ℕ → ℕ → ℕ → List Key
keys_in bytes at width n = map (λ i. key_at bytes (at + width * i)) (below n)

-- the key stands at this place
pub record IsKeyAt (k : Key) (ks : List Key) (i : ℕ) : Type 0 where
  pub in_range : i < length ks
  pub here : slice_get ks i ≡ Some k
  pub before : list_all (λ l. is_lt (key_cmp l k)) (take i ks) ≡ true
  pub behind : list_all (λ l. is_lt (key_cmp k l)) (drop (suc i) ks) ≡ true

-- the key is none of these: those before this place are smaller, and the others greater
pub record IsKeyGap (k : Key) (ks : List Key) (i : ℕ) : Type 0 where
  pub in_range : i ≤ length ks
  pub before : list_all (λ l. is_lt (key_cmp l k)) (take i ks) ≡ true
  pub behind : list_all (λ l. is_lt (key_cmp k l)) (drop i ks) ≡ true

-- the n children that stand in an inner page
abbrev pub children_in : List ℕ → ℕ → List ℕ
children_in bytes n = map (λ i. word_at bytes (8 + 4 * i)) (below n)
