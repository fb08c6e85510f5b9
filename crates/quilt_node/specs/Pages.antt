-- The pages of the tree as bytes. A page is well formed where it is what writing what it says would give.
use Rattle.std.specs.Prelude.{◌≡◌, ℕ, ◌+◌, ◌-◌, ◌*◌, ◌^◌, ◌<◌, ◌≤◌, Bool, true, ◌&&◌, nat_le, nat_lt, List, [], ◌∷◌, ◌++◌, length, map, flat_map, Option, Some}
use Rattle.std.specs.Prelude.{None, if◌then◌else◌, slice_index, slice_range}
use Rattle.std.specs.List.{list_all}
use Rattle.std.specs.Ordering.{is_lt}
use Rattle.std.specs.Str.{bytes_eq}
use Rattle.std.specs.Int.{to_be_bytes, from_be_bytes, w16, w32}
use Rattle.quilt_types.specs.Plane.{below}
use Rattle.quilt_types.specs.Facts.{quota}
use Rattle.quilt_record.specs.declared.key.Key.{Key}
use Rattle.quilt_record.specs.declared.record.Record.{Record}
use Rattle.quilt_node.specs.declared.head.Head.{Head}
use Rattle.quilt_types.specs.Bytes.{filled}
use Rattle.quilt_record.specs.Records.{key_cmp, key_bytes, record_bytes}

-- how many bytes a page has
abbrev pub page_size : ℕ
page_size = 4096

-- QHDR
abbrev pub magic : List ℕ
magic = 81 ∷ 72 ∷ 68 ∷ 82 ∷ []

-- the bytes of a header page: magic, format, edition, level, height, root and number of records, numbers of 4 bytes high byte first
unfoldable pub header_bytes : Head → List ℕ
header_bytes h =
    filled page_size (magic ++ to_be_bytes w32 h.format ++ to_be_bytes w32 h.edition ++ (h.level ∷ h.height ∷ 0 ∷ 0 ∷ [])
    ++ to_be_bytes w32 h.root ++ to_be_bytes w32 h.records)

-- what the numbers of a header may be in a file of so many home pages
pub record IsHead (pages : ℕ) (h : Head) : Type 0 where
  pub format : (1 ≤ h.format) × (h.format ≤ 2)
  pub edition : h.edition < 2 ^ 32
  pub level : (1 ≤ h.level) × (h.level ≤ 12)
  pub height : h.height ≤ 3
  pub no_tree : h.height ≡ 0 → (h.root ≡ 0) × (h.records ≡ 0)
  pub tree : 1 ≤ h.height → (1 ≤ h.root) × (h.root < pages) × (1 ≤ h.records)
  pub records : h.records ≤ quota pages

-- the page is the header with these numbers
pub record IsHeader (pages : ℕ) (bytes : List ℕ) (h : Head) : Type 0 where
  pub numbers : IsHead pages h
  pub written : bytes ≡ header_bytes h

-- each key is less than the next
abbrev pub is_ascending : List Key → Bool
is_ascending [] = true
is_ascending (k ∷ []) = true
is_ascending (k ∷ l ∷ ks) = is_lt (key_cmp k l) && is_ascending (l ∷ ks)

-- the bytes of a leaf page: a head of 64 bytes with the number of records, and from there 28 bytes a record
unfoldable pub leaf_bytes : List Record → List ℕ
leaf_bytes rs = filled page_size (filled 64 (1 ∷ 1 ∷ to_be_bytes w16 (length rs)) ++ flat_map record_bytes rs)

-- an inner page's children, and the keys between them
unfoldable pub inner_bytes : ℕ → List ℕ → List Key → List ℕ
inner_bytes height children keys =
    filled page_size (filled 1024 (filled 8 (2 ∷ height ∷ to_be_bytes w16 (length children)) ++ flat_map (to_be_bytes w32) children)
    ++ flat_map key_bytes keys)

-- the number in the two bytes at a place, the high byte first
abbrev pub short_at : List ℕ → ℕ → ℕ
short_at bytes at = from_be_bytes w16 (slice_range bytes at (at + 2))

-- the number in the four bytes at a place, the high byte first
abbrev pub word_at : List ℕ → ℕ → ℕ
word_at bytes at = from_be_bytes w32 (slice_range bytes at (at + 4))

-- the key in the 12 bytes at a place: layer, part, code, depth and item
abbrev pub key_at : List ℕ → ℕ → Key
key_at bytes at = record {
  layer = short_at bytes at;
  part = slice_index bytes (at + 2);
  code = word_at bytes (at + 3);
  depth = slice_index bytes (at + 7);
  item = word_at bytes (at + 8);
}

-- the record in the 28 bytes at a place: the key and a value of 16 bytes
abbrev pub record_at : List ℕ → ℕ → Record
record_at bytes at = record { key = key_at bytes at; value = slice_range bytes (at + 12) (at + 28) }

-- the records that a page's bytes have where it is a leaf, as many as its count says, well formed or not
abbrev pub read_leaf : List ℕ → List Record
read_leaf bytes = map (λ i. record_at bytes (64 + 28 * i)) (below (short_at bytes 2))

-- the records of a leaf page, where it is well formed
unfoldable pub leaf_of : List ℕ → Option (List Record)
leaf_of bytes =
    let rs = read_leaf bytes in
    if nat_le 1 (length rs) && nat_le (length rs) 144 && is_ascending (map (λ r. r.key) rs) && bytes_eq (leaf_bytes rs) bytes
    then Some rs else None

-- what an inner page says: its height in the tree, the pages of its children, and a key between each two of them
pub record Inner : Type 0 where
  pub height : ℕ
  pub children : List ℕ
  pub keys : List Key

-- the height, children and keys that a page's bytes have where it is an inner page, well formed or not
abbrev pub read_inner : List ℕ → Inner
read_inner bytes = record {
  height = slice_index bytes 1;
  children = map (λ i. word_at bytes (8 + 4 * i)) (below (short_at bytes 2));
  keys = map (λ i. key_at bytes (1024 + 12 * i)) (below (short_at bytes 2 - 1));
}

-- the height, children and keys of an inner page, where it is well formed
unfoldable pub inner_of : ℕ → List ℕ → Option Inner
inner_of pages bytes =
    let page = read_inner bytes in
    if nat_le 2 page.height && nat_le page.height 3
    && nat_le 2 (length page.children) && nat_le (length page.children) 254
    && list_all (λ c. nat_le 1 c && nat_lt c pages) page.children
    && is_ascending page.keys && bytes_eq (inner_bytes page.height page.children page.keys) bytes
    then Some page else None
