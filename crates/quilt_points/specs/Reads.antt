-- What is read of the blocks of a point layer.
use Rattle.std.specs.Prelude.{◌≡◌, ◌↔◌, ℕ, ◌<◌, MatchOption, Bool, true, List, map, Contains, Option, Some, None, if◌then◌else◌}
use Rattle.quilt_types.specs.declared.plane.Pixel.{Pixel}
use Rattle.quilt_types.specs.declared.plane.Block.{Block}
use Rattle.quilt_types.specs.declared.plane.Point.{Point}
use Rattle.std.specs.FinMap as finmap
use Rattle.quilt_types.specs.Plane.{in_block}
use Rattle.quilt_types.specs.Layers.{PointMap}
use Rattle.quilt_types.specs.Facts.{HoldsPoint, same_pixel, point_facts}
use Rattle.quilt_types.specs.Quadtrees.{point_blocks}
use Rattle.quilt_loc.specs.Codes.{Rises}
use Rattle.quilt_record.specs.declared.key.Key.{Key}
use Rattle.quilt_record.specs.declared.record.Record.{Record}
use Rattle.quilt_record.specs.Canonical.{IsRecordOf, point_fact}
use Rattle.quilt_btree.specs.Lists.{floor_of, value_at_key}
use Rattle.quilt_spell.specs.Apart.{Apart}
use Rattle.quilt_spell.specs.Written.{by_key}
use Rattle.quilt_point_laws.specs.Laws.{AreIn}
use Rattle.quilt_points.specs.Layers.{point_entries, block_facts, block_record, point_pixel_key}

-- the block is one of the layer's, and what is said of it is one of the layer's facts
pub record IsBlockRead (n capacity : ℕ) (points : PointMap) (b : Block) (held : Option Point) : Type 0 where
  pub block : Contains (point_blocks n capacity points) b
  pub fact : Contains (block_facts n capacity points) (point_fact b held)

-- the label of the point, if it is at the pixel
abbrev pub label_at : Option Point → Pixel → Option ℕ
label_at None at = None
label_at (Some p) at = if same_pixel p.at at then Some p.label else None

-- the records are those of the block: none where it is none of the layer's
pub record AreRecordsOf (n capacity number : ℕ) (points : PointMap) (b : Block) (records : List Record) : Type 0 where
  pub rises : Rises by_key records
  pub members : (r : Record)
      → Contains records r ↔ (Contains (point_blocks n capacity points) b × Contains (map (block_record n capacity number) (point_facts points b)) r)

-- the block is one of the layer's, and these are its points
pub record IsHeld (n capacity : ℕ) (points : PointMap) (b : Block) (held : List Point) : Type 0 where
  pub block : Contains (point_blocks n capacity points) b
  pub are : AreIn points b (point_entries held)

-- the record is the one of the layer with this number that says this of the block
abbrev pub IsRow : ℕ → ℕ → ℕ → Block → Option Point → Record → Type 0
IsRow n capacity number b held r = IsRecordOf n capacity r number (point_fact b held)

-- the points are those that the records of a block say
pub record AreSaid (n capacity number : ℕ) (b : Block) (records : List Record) (said : List Point) : Type 0 where
  pub from : (p : Point) → Contains said p → (r : Record) × Contains records r × IsRow n capacity number b (Some p) r
  pub to : (r : Record) (p : Point) → Contains records r → IsRow n capacity number b (Some p) r → Contains said p
  pub once : Apart records → Apart said

-- the points of a block whose pixels pass a test, each once
pub record ArePointsOf (points : PointMap) (test : Pixel → Bool) (b : Block) (held : List (Pixel × ℕ)) : Type 0 where
  pub once : Apart held
  pub members : (e : Pixel × ℕ) → Contains held e ↔ (Contains (finmap.entries points) e × (test e.0 ≡ true) × (in_block b e.0 ≡ true))

-- over any records: that of the greatest key up to a pixel's is one of this block of the layer
pub record IsBlockRow (n capacity number : ℕ) (rs : List Record) (p : Pixel) (b : Block) (held : Option Point) : Type 0 where
  pub row : Record
  pub is_floor : floor_of (point_pixel_key number p) rs ≡ Some row
  pub is_row : IsRow n capacity number b held row

-- the key of a point at a pixel of the block
abbrev pub label_key : ℕ → ℕ → ℕ → Block → Pixel → Key
label_key n capacity number b p = (block_record n capacity number (HoldsPoint b p 0)).key

-- over any records: there is none with the key of the point, or it says the point of this label
abbrev pub IsLabelIn : ℕ → ℕ → ℕ → List Record → Block → Pixel → Option ℕ → Type 0
IsLabelIn n capacity number rs b p label =
    MatchOption (value_at_key (label_key n capacity number b p) rs) (label ≡ None)
    (λ v. (d : Block) × (q : Point) × IsRow n capacity number d (Some q) (record { key = label_key n capacity number b p; value = v }) × (label ≡ Some q.label))

-- over any records: a block around the pixel is there, and the label is what its records say of the pixel
pub record IsLabelFound (n capacity number : ℕ) (rs : List Record) (p : Pixel) (label : Option ℕ) : Type 0 where
  pub block : Block
  pub held : Option Point
  pub there : IsBlockRow n capacity number rs p block held
  pub holds : in_block block p ≡ true
  pub one : capacity ≡ 1 → label ≡ label_at held p
  pub more : 1 < capacity → IsLabelIn n capacity number rs block p label
