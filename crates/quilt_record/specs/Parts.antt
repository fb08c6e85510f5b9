-- A record under its own key: the part, the item and the value that a fact of its layer has there.
use Rattle.std.specs.Prelude.{ℕ, List, [], ◌∷◌, ◌++◌, Option, Some, None}
use Rattle.std.specs.Int.{to_be_bytes, w16, w32}
use Rattle.quilt_types.specs.declared.plane.Point.{Point}
use Rattle.quilt_types.specs.declared.plane.Seg.{Seg}
use Rattle.quilt_record.specs.declared.key.Key.{Key}
use Rattle.quilt_record.specs.declared.record.Record.{Record}
use Rattle.quilt_types.specs.Bytes.{filled}
use Rattle.quilt_record.specs.Records.{point_item}

-- the value of a held point
abbrev pub point_value : Point → List ℕ
point_value p = filled 16 (1 ∷ to_be_bytes w16 p.at.x ++ to_be_bytes w16 p.at.y ++ to_be_bytes w32 p.label)

-- a point that the key's block holds, or none
abbrev pub point_under : ℕ → Key → Option Point → Record
point_under capacity k None = record { key = record k { part = 2; item = 0 }; value = filled 16 [] }
point_under capacity k (Some p) = record { key = record k { part = 2; item = point_item capacity p.at }; value = point_value p }

-- a segment that meets the key's block, or none
abbrev pub pair_under : Key → Option ℕ → Record
pair_under k None = record { key = record k { part = 3; item = 0 }; value = filled 16 [] }
pair_under k (Some id) = record { key = record k { part = 3; item = id }; value = filled 16 (1 ∷ []) }

-- the value of a segment
abbrev pub segment_value : Seg → List ℕ
segment_value s = filled 16 (to_be_bytes w16 s.x1 ++ to_be_bytes w16 s.y1 ++ to_be_bytes w16 s.x2 ++ to_be_bytes w16 s.y2)

-- a segment with the key's item for its id
abbrev pub segment_under : Key → Seg → Record
segment_under k s = record { key = record k { part = 4; code = 0; depth = 0 }; value = segment_value s }
