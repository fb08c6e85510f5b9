-- What is planned of points that come at once, block by block.
use Rattle.std.specs.Prelude.{◌≡◌, ℕ, ◌^◌, ◌++◌, true, List, map, flat_map, take, drop, Contains, None}
use Rattle.std.specs.FinMap as finmap
use Rattle.quilt_types.specs.declared.plane.Pixel.{Pixel}
use Rattle.quilt_types.specs.declared.plane.Block.{Block}
use Rattle.quilt_types.specs.declared.plane.Point.{Point}
use Rattle.quilt_types.specs.Plane.{in_block}
use Rattle.quilt_types.specs.Layers.{PointMap}
use Rattle.quilt_types.specs.Facts.{Fact}
use Rattle.quilt_record.specs.declared.record.Record.{Record}
use Rattle.quilt_spell.specs.Apart.{Apart}
use Rattle.quilt_point_laws.specs.Growing.{Gain, gone_in, come_in, IsGain}
use Rattle.quilt_point_laws.specs.Spreading.{spread}
use Rattle.quilt_points.specs.Layers.{point_entries, block_record}
use Rattle.quilt_points.specs.Reads.{IsHeld}

-- the records of facts, behind others
abbrev pub AddsRecords : ℕ → ℕ → ℕ → List Record → List Record → List Fact → Type 0
AddsRecords n number capacity old new fs = new ≡ old ++ map (block_record n capacity number) fs

-- the records of a block with these points, or of the blocks into which they are spread where they are too many, behind others
abbrev pub AddsSpread : ℕ → ℕ → ℕ → Block → List (Pixel × ℕ) → List Record → List Record → Type 0
AddsSpread n number capacity b held old new = (k : ℕ) → b.side ≡ 2 ^ k → AddsRecords n number capacity old new (spread capacity k b held)

-- So many of the points, the first of them on, are those in one of the layer's blocks. None of them is at a pixel that has a
-- point, and the records that change in the block are added.
pub record IsTaken (n number capacity : ℕ) (old : PointMap) (points : List Point) (count : ℕ) (without without_now with with_now : List Record) : Type 0 where
  pub block : Block
  pub held : List Point
  pub is : IsHeld n capacity old block held
  pub inside : (p : Point) → Contains (take count points) p → in_block block p.at ≡ true
  pub outside : (p : Point) → Contains (drop count points) p → in_block block p.at ≡ true → ⊥
  pub free : (p : Point) → Contains (take count points) p → finmap.get old p.at ≡ None
  pub gone : AddsRecords n number capacity without without_now
      (gone_in capacity (record { block = block; held = point_entries held; news = point_entries (take count points) }))
  pub come : AddsRecords n number capacity with with_now (come_in n capacity (record { block = block; held = point_entries held; news = point_entries (take count points) }))

-- The first points are taken: these are the records that change in the blocks that get them. The others are in no such block.
pub record IsGrown (n number capacity : ℕ) (old : PointMap) (done rest : List Point) (without with : List Record) : Type 0 where
  pub gains : List Gain
  pub once : Apart gains
  pub own : (g h : Gain) → Contains gains g → Contains gains h → g.block ≡ h.block → g ≡ h
  pub each : (g : Gain) → Contains gains g → IsGain n capacity old (point_entries done) g
  pub covered : (p : Point) → Contains done p → (g : Gain) × Contains gains g × (in_block g.block p.at ≡ true)
  pub apart : (g : Gain) (p : Point) → Contains gains g → Contains rest p → in_block g.block p.at ≡ true → ⊥
  pub free : (p : Point) → Contains done p → finmap.get old p.at ≡ None
  pub gone : without ≡ map (block_record n capacity number) (flat_map (gone_in capacity) gains)
  pub come : with ≡ map (block_record n capacity number) (flat_map (come_in n capacity) gains)
