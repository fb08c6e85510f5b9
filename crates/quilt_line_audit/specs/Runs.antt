-- How far the records of a line layer have come.
use Rattle.std.specs.Prelude.{◌≡◌, ◌⊎◌, ℕ, ◌≤◌, ◌<◌, ◌^◌, Bool, true, ◌&&◌, ◌==◌, List, [], map, filter, Contains}
use Rattle.quilt_types.specs.declared.plane.Seg.{Seg}
use Rattle.quilt_types.specs.declared.plane.Kind.TheVariants as kinds
use Rattle.quilt_types.specs.Plane.{whole, IsBlock}
use Rattle.quilt_types.specs.Layers.{is_in_square}
use Rattle.quilt_types.specs.Facts.{IsSegment}
use Rattle.quilt_loc.specs.Codes.{Rises}
use Rattle.quilt_record.specs.declared.record.Record.{Record}
use Rattle.quilt_record.specs.Records.{record_of}
use Rattle.quilt_record.specs.Canonical.{pair_fact}
use Rattle.quilt_spell.specs.Written.{by_key}
use Rattle.quilt_line_audit.specs.declared.pair.Pair.{Pair}
use Rattle.quilt_line_audit.specs.declared.run.LineRun.{LineRun}
use Rattle.quilt_line_audit.specs.Layers.{IsLayerOf, IsShort}
use Rattle.quilt_line_audit.specs.Pairs.{BeginsWithPairs}

-- the record of a pair of the layer with this number
abbrev pub pair_record : ℕ → ℕ → Pair → Record
pair_record n layer p = record_of n 0 [] layer (pair_fact p.block p.id)

-- the record of a segment with its id
abbrev pub segment_record : ℕ → ℕ → ℕ × Seg → Record
segment_record n layer e = record_of n 0 [] layer (IsSegment e.0 e.1)

-- it is of this part of the layer with this number: 3 has the pairs and 4 the segments
abbrev pub is_of_part : ℕ → ℕ → Record → Bool
is_of_part layer part r = (r.key.layer == layer) && (r.key.part == part)

-- The pairs and the segments of the run are those that the records of the layer say, in their order.
pub record IsLineRun (n : ℕ) (rs : List Record) (layer threshold : ℕ) (run : LineRun) : Type 0 where
  pub least : 1 ≤ threshold
  pub most : threshold ≤ 32
  pub pairs : filter (is_of_part layer 3) rs ≡ map (pair_record n layer) run.pairs.items
  pub segs : filter (is_of_part layer 4) rs ≡ map (segment_record n layer) run.segs.items
  pub only : (r : Record) → Contains rs r → r.key.layer ≡ layer → (r.key.part ≡ 3) ⊎ (r.key.part ≡ 4)
  pub blocks : (p : Pair) → Contains run.pairs.items p → IsBlock n p.block
  pub inside : (e : ℕ × Seg) → Contains run.segs.items e → (e.0 < 2 ^ 32) × (is_in_square n e.1 ≡ true)

-- the run has no record
pub record IsLineStart (run : LineRun) : Type 0 where
  pub pairs : run.pairs.items ≡ []
  pub segs : run.segs.items ≡ []

-- the pairs are those of blocks that the whole square is cut into
abbrev pub IsLined : ℕ → LineRun → Type 0
IsLined n run = BeginsWithPairs run.segs.items n (whole n) run.pairs.items []

-- such a run has the records of a line layer, where they rise
abbrev pub WholeLaw : Type 0
WholeLaw =
    (form n : ℕ) (rs : List Record) (layer threshold : ℕ) (run : LineRun) → n ≤ 12 → 1 ≤ layer → IsLineRun n rs layer threshold run
    → IsLined n run → Rises by_key rs → IsLayerOf form n rs layer (kinds.Lines threshold)

-- and no other run has all records of one
abbrev pub ShortLaw : Type 0
ShortLaw =
    (form n : ℕ) (rs : List Record) (layer threshold : ℕ) (run : LineRun) → n ≤ 12 → 1 ≤ layer → IsLineRun n rs layer threshold run
    → (IsLined n run → ⊥) → IsShort form n rs layer (kinds.Lines threshold)
