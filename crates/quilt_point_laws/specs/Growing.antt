-- What points that come into blocks change: the facts on each block and on the blocks in it.
use Rattle.std.specs.Prelude.{◌≡◌, ◌↔◌, ℕ, ◌+◌, ◌-◌, ◌==◌, nat_le, true, List, [], ◌∷◌, ◌++◌, length, map, Contains, if◌then◌else◌}
use Rattle.quilt_types.specs.declared.plane.Pixel.{Pixel}
use Rattle.quilt_types.specs.declared.plane.Block.{Block}
use Rattle.quilt_types.specs.Codes.{depth}
use Rattle.quilt_types.specs.Plane.{in_block}
use Rattle.quilt_types.specs.Layers.{PointMap}
use Rattle.quilt_types.specs.Quadtrees.{point_blocks}
use Rattle.quilt_types.specs.Facts.{Fact, HoldsPoint, HoldsNoPoint}
use Rattle.quilt_spell.specs.Apart.{Apart}
use Rattle.quilt_point_laws.specs.Laws.{AreIn}
use Rattle.quilt_point_laws.specs.Spreading.{held_facts, spread}

-- the facts that hold without the new points alone
abbrev pub gone_of : ℕ → Block → List (Pixel × ℕ) → List (Pixel × ℕ) → List Fact
gone_of capacity b held news =
    if nat_le (length held + length news) capacity
    then (if length held == 0 then HoldsNoPoint b ∷ [] else [])
    else held_facts b held

-- the facts that hold with them alone; k: the level of the block's side
abbrev pub come_of : ℕ → ℕ → Block → List (Pixel × ℕ) → List (Pixel × ℕ) → List Fact
come_of capacity k b held news =
    if nat_le (length held + length news) capacity
    then map (λ e. HoldsPoint b e.0 e.1) news
    else spread capacity k b (news ++ held)

-- a block, the points that it has, and those that come into it
pub record Gain : Type 0 where
  pub block : Block
  pub held : List (Pixel × ℕ)
  pub news : List (Pixel × ℕ)

-- the facts on the block that hold without the new points alone
abbrev pub gone_in : ℕ → Gain → List Fact
gone_in capacity g = gone_of capacity g.block g.held g.news

-- n: the level of the map
abbrev pub come_in : ℕ → ℕ → Gain → List Fact
come_in n capacity g = come_of capacity (n - depth n g.block) g.block g.held g.news

-- the block is one of the layer's that gets some of the new points, and these are the points that it has and those that it gets
pub record IsGain (n capacity : ℕ) (points : PointMap) (news : List (Pixel × ℕ)) (g : Gain) : Type 0 where
  pub block : Contains (point_blocks n capacity points) g.block
  pub held : AreIn points g.block g.held
  pub once : Apart g.news
  pub among : (e : Pixel × ℕ) → Contains g.news e ↔ (Contains news e × (in_block g.block e.0 ≡ true))
  pub some : (e : Pixel × ℕ) × Contains g.news e
