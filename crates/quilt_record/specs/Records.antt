-- Each fact of a map as a record: a key of 12 bytes and a value of 16.
use Rattle.std.specs.Prelude.{◌≡◌, ℕ, ◌+◌, ◌-◌, ◌/◌, ◌%◌, ◌≤◌, ◌==◌, ◌&&◌, if◌then◌else◌, nat_eq, List, [], ◌∷◌, ◌++◌, length, map, flat_map, replicate, All}
use Rattle.std.specs.Prelude.{unwrap_or}
use Rattle.std.specs.List.{IsDistinct}
use Rattle.std.specs.Ordering.{nat_cmp, ordering_then}
use Rattle.std.specs.declared.cmp.Ordering.{Ordering}
use Rattle.std.specs.Cmp.Lexicographic.{slice_cmp}
use Rattle.std.specs.Int.{to_be_bytes, w16, w32}
use Rattle.std.specs.FinMap as finmap
use Rattle.quilt_types.specs.Sets as finset
use Rattle.quilt_types.specs.declared.plane.Block.{Block}
use Rattle.quilt_types.specs.declared.plane.Pixel.{Pixel}
use Rattle.quilt_types.specs.Layers.{Layer, Points, Map, IsMap}
use Rattle.quilt_types.specs.Facts.{Fact, IsOfKind, HasColour, HoldsPoint, HoldsNoPoint, IsSegment, IsMetBy, IsMetByNone, facts}
use Rattle.quilt_record.specs.declared.key.Key.{Key}
use Rattle.quilt_record.specs.declared.record.Record.{Record}
use Rattle.quilt_types.specs.Codes.{code, depth}
use Rattle.quilt_types.specs.Bytes.{filled}

-- the order of the fields, which is that of the bytes
abbrev pub key_cmp : Key → Key → Ordering
key_cmp a b =
    ordering_then (nat_cmp a.layer b.layer) (ordering_then (nat_cmp a.part b.part) (
    ordering_then (nat_cmp a.code b.code) (ordering_then (nat_cmp a.depth b.depth) (nat_cmp a.item b.item))))

-- by key, and then by the bytes of the value
abbrev pub record_cmp : Record → Record → Ordering
record_cmp a b = ordering_then (key_cmp a.key b.key) (slice_cmp nat_cmp a.value b.value)

-- the 12 bytes of a key: layer 2, part 1, code 4, depth 1, item 4, the high byte first
abbrev pub key_bytes : Key → List ℕ
key_bytes k = to_be_bytes w16 k.layer ++ (k.part ∷ to_be_bytes w32 k.code) ++ (k.depth ∷ to_be_bytes w32 k.item)

-- the 28 bytes of a record: its key and its value
abbrev pub record_bytes : Record → List ℕ
record_bytes r = key_bytes r.key ++ r.value

-- the key of a record of a block: the layer's number, the part, the block's code and depth at the level n, and what tells its records apart
abbrev pub block_key : ℕ → ℕ → ℕ → Block → ℕ → Key
block_key n layer part b item =
    record { layer = layer; part = part; code = code b.x b.y; depth = depth n b; item = item }

-- the number that stands beside a kind: a capacity of 1 is not written
abbrev pub kind_number : ℕ → ℕ → ℕ
kind_number kind number = if (kind == 2) && (number == 1) then 0 else number

-- what tells the points of a block apart, where a block may hold more than one
abbrev pub point_item : ℕ → Pixel → ℕ
point_item capacity p = if capacity == 1 then 0 else code p.x p.y + 1

-- the record of a fact of the layer with this name and number, whose blocks hold at most so many points
abbrev pub record_of : ℕ → ℕ → List ℕ → ℕ → Fact → Record
record_of n capacity name layer (IsOfKind kind number) = record {
  key = record { layer = 0; part = 0; code = 0; depth = 0; item = layer };
  value = filled 12 name ++ kind ∷ kind_number kind number ∷ 0 ∷ 0 ∷ [];
}
record_of n capacity name layer (HasColour b colour) = record {
  key = block_key n layer 1 b 0;
  value = filled 16 (colour % 256 ∷ colour / 256 ∷ []);
}
record_of n capacity name layer (HoldsNoPoint b) = record { key = block_key n layer 2 b 0; value = filled 16 [] }
record_of n capacity name layer (HoldsPoint b p label) = record {
  key = block_key n layer 2 b (point_item capacity p);
  value = filled 16 (1 ∷ to_be_bytes w16 p.x ++ to_be_bytes w16 p.y ++ to_be_bytes w32 label);
}
record_of n capacity name layer (IsMetByNone b) = record { key = block_key n layer 3 b 0; value = filled 16 [] }
record_of n capacity name layer (IsMetBy b id) = record { key = block_key n layer 3 b id; value = filled 16 (1 ∷ []) }
record_of n capacity name layer (IsSegment id s) = record {
  key = record { layer = layer; part = 4; code = 0; depth = 0; item = id };
  value = filled 16 (to_be_bytes w16 s.x1 ++ to_be_bytes w16 s.y1 ++ to_be_bytes w16 s.x2 ++ to_be_bytes w16 s.y2);
}

-- how many points a block of the layer holds at most; 0 where it is no point layer
abbrev pub capacity_of : Layer → ℕ
capacity_of (Points capacity points) = capacity
capacity_of layer = 0

-- a number for each layer
abbrev pub Numbering : Type 0
Numbering = finmap.FinMap (slice_cmp nat_cmp) ℕ

-- all records of a map, in order
unfoldable pub records_of : ℕ → Numbering → Map → List Record
records_of n numbers layers =
    finset.items (finset.from_list {R = record_cmp} (flat_map
    (λ e. map (record_of n (capacity_of e.1) e.0 (unwrap_or (finmap.get numbers e.0) 0)) (facts n e.1)) (finmap.entries layers)))

-- The records spell the map of this format and level: they are its facts, written under some numbers of its layers.
pub record Spells (f n : ℕ) (records : List Record) (layers : Map) : Type 0 where
  pub map : IsMap f n layers
  pub numbers : Numbering
  pub numbered : finmap.keys numbers ≡ finmap.keys layers
  pub in_range : All (λ k. (1 ≤ k) × (k ≤ 255)) (finmap.values numbers)
  pub differ : IsDistinct nat_eq (finmap.values numbers)
  pub written : records ≡ records_of n numbers layers
