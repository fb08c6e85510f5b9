-- When a record is the one spelling of a fact.
use Rattle.std.specs.Prelude.{◌≡◌, ℕ, ◌<◌, ◌≤◌, ◌^◌, true, List, Option, Some, None}
use Rattle.quilt_types.specs.declared.plane.Block.{Block}
use Rattle.quilt_types.specs.declared.plane.Point.{Point}
use Rattle.quilt_types.specs.Plane.{IsBlock, is_pixel}
use Rattle.quilt_types.specs.Facts.{Fact, IsOfKind, HasColour, HoldsPoint, HoldsNoPoint, IsSegment, IsMetBy, IsMetByNone}
use Rattle.quilt_record.specs.declared.record.Record.{Record}
use Rattle.quilt_record.specs.Records.{record_of}

-- the numbers of a fact at this level: its block and its point are of the square, and the others fit their bytes
abbrev pub FactFits : ℕ → Fact → Type 0
FactFits n (IsOfKind kind number) = Unit {0}
FactFits n (HasColour b colour) = IsBlock n b
FactFits n (HoldsPoint b p label) = IsBlock n b × (is_pixel n p ≡ true) × (label < 2 ^ 32)
FactFits n (HoldsNoPoint b) = IsBlock n b
FactFits n (IsSegment id s) = (id < 2 ^ 32) × (s.x1 < 2 ^ 16) × (s.y1 < 2 ^ 16) × (s.x2 < 2 ^ 16) × (s.y2 < 2 ^ 16)
FactFits n (IsMetBy b id) = IsBlock n b × (id < 2 ^ 32)
FactFits n (IsMetByNone b) = IsBlock n b

-- the record is the fact of the layer with this number, whose blocks hold at most so many points
pub record IsRecordOf (n capacity : ℕ) (r : Record) (layer : ℕ) (f : Fact) : Type 0 where
  pub least : 1 ≤ layer
  pub most : layer ≤ 255
  pub fits : FactFits n f
  pub written : (name : List ℕ) → r ≡ record_of n capacity name layer f

-- a block with its point, or without
abbrev pub point_fact : Block → Option Point → Fact
point_fact b None = HoldsNoPoint b
point_fact b (Some p) = HoldsPoint b p.at p.label

-- a block with a segment that meets it, or with none
abbrev pub pair_fact : Block → Option ℕ → Fact
pair_fact b None = IsMetByNone b
pair_fact b (Some id) = IsMetBy b id
