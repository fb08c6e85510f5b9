-- What is read of a line layer.
use Rattle.std.specs.Prelude.{◌≡◌, ℕ, true, List, [], map, if◌then◌else◌}
use Rattle.quilt_types.specs.Sets as finset
use Rattle.quilt_types.specs.declared.plane.Block.{Block}
use Rattle.quilt_types.specs.declared.plane.Seg.{Seg}
use Rattle.quilt_types.specs.Layers.{SegMap, BlockSet}
use Rattle.quilt_types.specs.Facts.{IsMetBy, IsMetByNone, line_facts}
use Rattle.quilt_record.specs.declared.key.Key.{Key}
use Rattle.quilt_record.specs.declared.record.Record.{Record}
use Rattle.quilt_near.specs.Lines.{meeting}
use Rattle.quilt_lines.specs.Layers.{fact_record}

-- the ids of segments
abbrev pub ids_of : List (ℕ × Seg) → List ℕ
ids_of list = map (λ e. e.0) list

-- the key of the segment with this id
abbrev pub segment_key : ℕ → ℕ → Key
segment_key layer id = record { layer = layer; part = 4; code = 0; depth = 0; item = id }

-- the record of a block that a segment meets, by the segment's id
abbrev pub pair_of : ℕ → ℕ → Block → ℕ → Record
pair_of n layer b id = fact_record n layer (IsMetBy b id)

-- the record of a block that no segment meets
abbrev pub none_of : ℕ → ℕ → Block → Record
none_of n layer b = fact_record n layer (IsMetByNone b)

-- the records of a block: none where it is none of the layer's
abbrev pub block_records : ℕ → ℕ → SegMap → BlockSet → Block → List Record
block_records n layer segs cover b = if finset.contains cover b then map (fact_record n layer) (line_facts segs b) else []

-- the block is one of the layer's, and these are the ids of the segments that meet it
pub record AreIdsAt (segs : SegMap) (cover : BlockSet) (b : Block) (ids : List ℕ) : Type 0 where
  pub there : finset.contains cover b ≡ true
  pub are : ids ≡ ids_of (meeting segs b)
