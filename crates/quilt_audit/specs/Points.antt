-- The records of a point layer that have come so far.
use Rattle.std.specs.Prelude.{◌≡◌, ◌⊎◌, ℕ, ◌+◌, ◌^◌, ◌<◌, ◌≤◌, true, List, [], ◌∷◌, ◌++◌, map, length, Contains, Option, Some, None}
use Rattle.std.specs.FinMap as finmap
use Rattle.quilt_types.specs.declared.plane.Block.{Block}
use Rattle.quilt_types.specs.declared.plane.Pixel.{Pixel}
use Rattle.quilt_types.specs.declared.plane.Point.{Point}
use Rattle.quilt_types.specs.declared.plane.Kind.TheVariants as kinds
use Rattle.quilt_types.specs.Plane.{IsBlock, in_block, quarters_of}
use Rattle.quilt_types.specs.Layers.{PointMap, IsPointMap}
use Rattle.quilt_types.specs.Facts.{Fact, point_facts}
use Rattle.quilt_types.specs.Quadtrees.{occupancy}
use Rattle.quilt_loc.specs.Codes.{Rises, code_to}
use Rattle.quilt_record.specs.declared.record.Record.{Record}
use Rattle.quilt_record.specs.Records.{record_of}
use Rattle.quilt_record.specs.Listing.{KindFits}
use Rattle.quilt_blocks.specs.Listing.{Follows}
use Rattle.quilt_blocks.specs.Walk.{pixel_count}
use Rattle.quilt_spell.specs.Written.{by_key}
use Rattle.quilt_audit.specs.declared.tally.Tally.{Tally}
use Rattle.quilt_audit.specs.declared.points.PointRun.{PointRun}
use Rattle.quilt_audit.specs.Covers.{AreFour, no_block, no_blocks}

-- blocks as one after another has them
abbrev pub plain : Block → Block × ℕ
plain b = (b, 0)

-- those of the records that are of the layer with this number are exactly those of the facts on these blocks
pub record HasFacts (rs : List Record) (layer n capacity : ℕ) (bs : List Block) (points : PointMap) : Type 0 where
  pub each : (b : Block) (f : Fact) → Contains bs b → Contains (point_facts points b) f → Contains rs (record_of n capacity [] layer f)
  pub only : (r : Record) → Contains rs r → r.key.layer ≡ layer →
      (b : Block) × (f : Fact) × Contains bs b × Contains (point_facts points b) f × (record_of n capacity [] layer f ≡ r)

-- Blocks one after another from the first code up to this one, of which each holds at most so many points, and all points are in them.
pub record ArePlaced (form n : ℕ) (rs : List Record) (layer capacity end : ℕ) (bs : List Block) (points : PointMap) : Type 0 where
  pub valid : IsPointMap form n capacity points
  pub has : HasFacts rs layer n capacity bs points
  pub follows : Follows n 0 (map plain bs)
  pub size : pixel_count (map plain bs) ≡ end
  pub held : (e : Pixel × ℕ) → Contains (finmap.entries points) e → (b : Block) × Contains bs b × (in_block b e.0 ≡ true)
  pub few : (b : Block) → Contains bs b → occupancy points b ≤ capacity

-- four quarters among the blocks hold too many points for one block
abbrev pub AreApart : ℕ → ℕ → List Block → PointMap → Type 0
AreApart n capacity bs points =
    (w : Block) → IsBlock n w → 1 < w.side → ((q : Block) → Contains (quarters_of w) q → Contains bs q) → capacity < occupancy points w

-- the last three blocks are these, or fewer behind blocks that are none, with so many points
pub record EndIn (bs : List Block) (points : PointMap) (recent : List Tally) : Type 0 where
  pub three : length recent ≡ 3
  pub front : List Block
  pub split : no_blocks ++ bs ≡ front ++ map (λ t. t.block) recent
  pub counts : (t : Tally) → Contains recent t → occupancy points t.block ≡ t.count

-- all points of the blocks have come
pub record AreClosed (form n : ℕ) (rs : List Record) (layer capacity end : ℕ) (recent : List Tally) : Type 0 where
  pub blocks : List Block
  pub points : PointMap
  pub placed : ArePlaced form n rs layer capacity end blocks points
  pub apart : AreApart n capacity blocks points
  pub ends : EndIn blocks points recent

-- how many points the blocks hold
abbrev pub total : List Tally → ℕ
total [] = 0
total (t ∷ ts) = t.count + total ts

-- three blocks and the next one behind them, which may be the four quarters of a block
abbrev pub blocks_behind : List Tally → Block → List Block
blocks_behind three b = map (λ t. t.block) three ++ b ∷ []

-- the last block may take more points
pub record IsTallied (form n : ℕ) (rs : List Record) (layer capacity : ℕ) (run : PointRun) : Type 0 where
  pub closed : List Block
  pub points : PointMap
  pub placed : ArePlaced form n rs layer capacity run.end (closed ++ run.last.block ∷ []) points
  pub apart : AreApart n capacity closed points
  pub ends : EndIn closed points run.recent
  pub count : occupancy points run.last.block ≡ run.last.count
  pub enough : (w : Block) → AreFour n (blocks_behind run.recent run.last.block) w → capacity + run.last.count < run.least + occupancy points w
  pub due : (run.least ≡ 0)
      ⊎ ((w : Block) × AreFour n (blocks_behind run.recent run.last.block) w × (run.least + occupancy points w ≡ capacity + 1 + run.last.count))

-- no block with no point, which stands for one before the first
abbrev pub no_tally : Tally
no_tally = record { block = no_block; count = 0 }

-- the run has no record
pub record IsPointStart (capacity : ℕ) (run : PointRun) : Type 0 where
  pub bucket : run.bucket ≡ capacity
  pub end : run.end ≡ 0
  pub recent : run.recent ≡ no_tally ∷ no_tally ∷ no_tally ∷ []
  pub tail : run.last ≡ no_tally
  pub least : run.least ≡ 0

-- no record of the layer has come
pub record IsBefore (form : ℕ) (rs : List Record) (layer capacity : ℕ) (run : PointRun) : Type 0 where
  pub fits : KindFits form (kinds.Points capacity)
  pub start : IsPointStart capacity run
  pub none : (r : Record) → Contains rs r → r.key.layer ≡ layer → ⊥

-- how far the records of the layer with this number have come, where they rise
pub record IsPointRun (form n : ℕ) (rs : List Record) (layer capacity : ℕ) (run : PointRun) : Type 0 where
  pub bucket : run.bucket ≡ capacity
  pub so_far : Rises by_key rs → IsBefore form rs layer capacity run ⊎ IsTallied form n rs layer capacity run

-- How many points a block has to hold at least behind these three.
pub record IsLeast (n bucket : ℕ) (three : List Tally) (b : Block) (least : ℕ) : Type 0 where
  pub enough : (w : Block) → AreFour n (blocks_behind three b) w → bucket < least + total three
  pub due : (least ≡ 0) ⊎ ((w : Block) × AreFour n (blocks_behind three b) w × (least + total three ≡ bucket + 1))

-- the last three blocks of the run and the one before them
abbrev pub recent_after : List Tally → Tally → List Tally
recent_after [] t = t ∷ []
recent_after (a ∷ rest) t = rest ++ t ∷ []

-- a run after the first record of the next block
pub record IsBlockBegun (n : ℕ) (run : PointRun) (b : Block) (count : ℕ) (next : PointRun) : Type 0 where
  pub bucket : next.bucket ≡ run.bucket
  pub end : next.end ≡ code_to b
  pub recent : length run.recent ≡ 3 → next.recent ≡ recent_after run.recent run.last
  pub tail : next.last ≡ record { block = b; count = count }
  pub least : IsLeast n run.bucket next.recent b next.least

-- the blocks cover the square and the last one holds enough
pub record IsFinished (n : ℕ) (run : PointRun) : Type 0 where
  pub covered : run.end ≡ 4 ^ n
  pub enough : run.least ≤ run.last.count

-- the point is in the block
abbrev pub IsHeldIn : Block → Option Point → Type 0
IsHeldIn b None = Unit {0}
IsHeldIn b (Some p) = in_block b p.at ≡ true

-- how many points a record has: one or none
abbrev pub count_of : Option Point → ℕ
count_of None = 0
count_of (Some p) = 1
