-- What is true of every leaf page and of every inner page, and where a key belongs in one.
use Rattle.std.specs.Prelude.{◌≡◌, ℕ, suc, ◌<◌, ◌≤◌, ◌^◌, Bool, true, ◌&&◌, nat_le, nat_lt, if◌then◌else◌, ◌+◌, ◌*◌, List, ◌∷◌, map, length, take, drop, Some}
use Rattle.std.specs.Prelude.{slice_get, slice_index}
use Rattle.std.specs.List.{list_all}
use Rattle.std.specs.Ordering.{is_lt, is_le}
use Rattle.quilt_record.specs.declared.key.Key.{Key}
use Rattle.quilt_record.specs.declared.record.Record.{Record}
use Rattle.std.specs.Int.{to_be_bytes, w16}
use Rattle.quilt_types.specs.Bytes.{filled}
use Rattle.quilt_record.specs.Records.{key_cmp}
use Rattle.quilt_record.specs.Fits.{AllFit, KeysFit}
use Rattle.quilt_node.specs.declared.head.Head.{Head}
use Rattle.quilt_node.specs.Pages.{Inner, IsHead, is_ascending, leaf_bytes, inner_bytes, short_at, word_at, record_at}
use Rattle.quilt_types.specs.Plane.{below}

-- the keys of the records, in their order
abbrev pub keys_of : List Record → List Key
keys_of rs = map (λ r. r.key) rs

-- the records that stand in the bytes of a page, as many as its count says and a leaf can hold
abbrev pub page_records : List ℕ → List Record
page_records bytes = map (λ i. record_at bytes (64 + 28 * i)) (below (if nat_lt 144 (short_at bytes 2) then 144 else short_at bytes 2))

-- the records of a leaf page: 1 to 144, with keys that ascend
pub record IsLeaf (rs : List Record) : Type 0 where
  pub fit : AllFit rs
  pub least : 1 ≤ length rs
  pub most : length rs ≤ 144
  pub ascends : is_ascending (keys_of rs) ≡ true

-- the bytes are the leaf page with these records
pub record IsLeafPage (bytes : List ℕ) (rs : List Record) : Type 0 where
  pub is_leaf : IsLeaf rs
  pub written : bytes ≡ leaf_bytes rs

-- the children are pages of a file with so many home pages, and none is the header
abbrev pub are_pages : ℕ → List ℕ → Bool
are_pages pages children = list_all (λ c. nat_le 1 c && nat_lt c pages) children

-- an inner page: height 2 or 3, 2 to 254 children, and a key between each two, which ascend
pub record IsInner (inner : Inner) : Type 0 where
  pub low : 2 ≤ inner.height
  pub high : inner.height ≤ 3
  pub least : 2 ≤ length inner.children
  pub most : length inner.children ≤ 254
  pub between : length inner.children ≡ suc (length inner.keys)
  pub children : are_pages (2 ^ 32) inner.children ≡ true
  pub fit : KeysFit inner.keys
  pub ascends : is_ascending inner.keys ≡ true

-- the bytes are this inner page
pub record IsInnerPage (bytes : List ℕ) (inner : Inner) : Type 0 where
  pub is_inner : IsInner inner
  pub written : bytes ≡ inner_bytes inner.height inner.children inner.keys

-- the record with the key stands at this place, and the others before and behind it by their keys
pub record IsFound (k : Key) (rs : List Record) (i : ℕ) : Type 0 where
  pub found : Record
  pub in_range : i < length rs
  pub here : slice_get rs i ≡ Some found
  pub key : found.key ≡ k
  pub before : list_all (λ r. is_lt (key_cmp r.key k)) (take i rs) ≡ true
  pub behind : list_all (λ r. is_lt (key_cmp k r.key)) (drop (suc i) rs) ≡ true

-- no record has the key: those before this place have smaller ones, and the others greater ones
pub record IsGap (k : Key) (rs : List Record) (i : ℕ) : Type 0 where
  pub in_range : i ≤ length rs
  pub before : list_all (λ r. is_lt (key_cmp r.key k)) (take i rs) ≡ true
  pub behind : list_all (λ r. is_lt (key_cmp k r.key)) (drop i rs) ≡ true

-- the keys up to this place are at most k, and the others above it
pub record IsPlace (keys : List Key) (k : Key) (i : ℕ) : Type 0 where
  pub in_range : i ≤ length keys
  pub before : list_all (λ l. is_le (key_cmp l k)) (take i keys) ≡ true
  pub behind : list_all (λ l. is_lt (key_cmp k l)) (drop i keys) ≡ true

-- the header of some file
pub record IsSomeHead (h : Head) : Type 0 where
  pub pages : ℕ
  pub least : 16 ≤ pages
  pub most : pages ≤ 30000
  pub numbers : IsHead pages h

-- the first 64 bytes of a leaf page with n records
abbrev pub leaf_head : ℕ → List ℕ
leaf_head n = filled 64 (1 ∷ 1 ∷ to_be_bytes w16 n)

-- the first 8 bytes of an inner page with n children
abbrev pub inner_head : ℕ → ℕ → List ℕ
inner_head height n = filled 8 (2 ∷ height ∷ to_be_bytes w16 n)

-- the numbers of a header fit their bytes
pub record HeadFits (h : Head) : Type 0 where
  pub edition : h.edition < 2 ^ 32
  pub root : h.root < 2 ^ 32
  pub records : h.records < 2 ^ 32

-- the numbers that stand where a header has them
abbrev pub read_head : List ℕ → Head
read_head bytes = record {
  format = slice_index bytes 7;
  edition = word_at bytes 8;
  level = slice_index bytes 12;
  root = word_at bytes 16;
  height = slice_index bytes 13;
  records = word_at bytes 20;
}
