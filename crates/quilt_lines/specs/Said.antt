-- What the records of a tree say of a line layer, also where they are not those of one.
use Rattle.std.specs.Prelude.{◌≡◌, ◌≢◌, ◌⊎◌, ℕ, ◌≤◌, List, [], ◌∷◌, Option, Some, None, All, map, length}
use Rattle.quilt_types.specs.declared.plane.Block.{Block}
use Rattle.quilt_types.specs.declared.plane.Seg.{Seg}
use Rattle.quilt_types.specs.declared.stop.Stop.{Stop}
use Rattle.quilt_types.specs.declared.stop.Stop.TheVariants.{Damaged}
use Rattle.quilt_types.specs.Facts.{IsSegment}
use Rattle.quilt_record.specs.declared.key.Key.{Key}
use Rattle.quilt_record.specs.declared.record.Record.{Record}
use Rattle.quilt_btree.specs.declared.tree.Tree.{Tree}
use Rattle.quilt_btree.specs.Damage.{NamesBad}
use Rattle.quilt_btree.specs.Lists.{value_at_key, range_of}
use Rattle.quilt_btree.specs.Stops.{NamesPage}
use Rattle.quilt_btree.specs.Trees.{IsTree}
use Rattle.quilt_near.specs.declared.part.Part.{Part}
use Rattle.quilt_near.specs.declared.part.Part.TheVariants.{Split, Leaf}
use Rattle.quilt_lines.specs.Layers.{fact_record}
use Rattle.quilt_lines.specs.Reads.{segment_key, pair_of, none_of, ids_of}

-- the greatest id
abbrev pub greatest : ℕ
greatest = 4294967295

-- page 0 alone is said to be damaged where the tree has records, and else a page that is bad itself
pub record NamesZeroOrBad (told : Option (List (List ℕ))) (tree : Tree) (e : Stop) : Type 0 where
  pub zero : (rs : List Record) → IsTree told tree rs → NamesPage 1 e
  pub bad : e ≢ Damaged 0 → NamesBad told tree.height tree.root e

-- the last key that a record of the block can have
abbrev pub last_block_key : ℕ → ℕ → Block → Key
last_block_key n layer b =
    let k = (none_of n layer b).key in record { layer = k.layer; part = k.part; code = k.code; depth = k.depth; item = greatest }

-- those of the records that have a key of the block's
abbrev pub records_at : ℕ → ℕ → Block → List Record → List Record
records_at n layer b rs = range_of (none_of n layer b).key (last_block_key n layer b) greatest rs

-- those of the records that have a key of a segment's
abbrev pub segment_records : ℕ → List Record → List Record
segment_records layer rs = range_of (segment_key layer 0) (segment_key layer greatest) greatest rs

-- the records are those of a block that the segments with these ids meet, and no others
abbrev pub SayIds : ℕ → ℕ → Block → List Record → List ℕ → Type 0
SayIds n layer b records ids =
    ((records ≡ none_of n layer b ∷ []) × (ids ≡ [])) ⊎ ((records ≡ map (pair_of n layer b) ids) × (1 ≤ length ids))

-- one of the records is that of this segment under the id
abbrev pub SaySegment : ℕ → ℕ → List Record → ℕ → Seg → Type 0
SaySegment n layer rs id s = value_at_key (segment_key layer id) rs ≡ Some (fact_record n layer (IsSegment id s)).value

-- none of the records has the key of the id's segment, or one is that of this segment
abbrev pub SaySegmentAt : ℕ → ℕ → List Record → ℕ → Option Seg → Type 0
SaySegmentAt n layer rs id None = value_at_key (segment_key layer id) rs ≡ None
SaySegmentAt n layer rs id (Some s) = SaySegment n layer rs id s

-- The records have a segment's keys for these segments alone, and are the records of them.
abbrev pub SaySegments : ℕ → ℕ → List Record → List (ℕ × Seg) → Type 0
SaySegments n layer records list = records ≡ map (λ e. fact_record n layer (IsSegment e.0 e.1)) list

-- none of the records has a key of the block's, or they say which segments meet it, and each of these stands under its id
abbrev pub SayPart : ℕ → ℕ → List Record → Block → Part → Type 0
SayPart n layer rs b Split = records_at n layer b rs ≡ []
SayPart n layer rs b (Leaf list) = SayIds n layer b (records_at n layer b rs) (ids_of list) × All (λ e. SaySegment n layer rs e.0 e.1) list
