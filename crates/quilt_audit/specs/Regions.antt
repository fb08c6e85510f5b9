-- The records of a region layer that have come so far.
use Rattle.std.specs.Prelude.{◌≡◌, ℕ, ◌<◌, List, [], ◌∷◌, ◌++◌, map, length, Contains}
use Rattle.quilt_types.specs.declared.plane.Block.{Block}
use Rattle.quilt_types.specs.Plane.{IsBlock, quarters_of}
use Rattle.quilt_types.specs.Layers.{colours}
use Rattle.quilt_record.specs.declared.record.Record.{Record}
use Rattle.quilt_blocks.specs.declared.leaf.Leaf.{Leaf}
use Rattle.quilt_blocks.specs.Listing.{Follows, IsUnmerged, leaf_pairs}
use Rattle.quilt_blocks.specs.Walk.{pixel_count}
use Rattle.quilt_spell.specs.OfLayer.{leaf_record}
use Rattle.quilt_audit.specs.Covers.{no_block}

-- those of the records that are of the layer with this number are exactly those of the blocks
pub record HasBlocks (rs : List Record) (layer n : ℕ) (bs : List (Block × ℕ)) : Type 0 where
  pub each : (e : Block × ℕ) → Contains bs e → Contains rs (leaf_record n layer e)
  pub only : (r : Record) → Contains rs r → r.key.layer ≡ layer → Contains (map (leaf_record n layer) bs) r

-- Blocks one after another from the first code up to this one, with colours of the format, of which no four siblings have one colour.
pub record AreLaid (form n end : ℕ) (bs : List (Block × ℕ)) : Type 0 where
  pub colours_fit : (e : Block × ℕ) → Contains bs e → e.1 < colours form
  pub follows : Follows n 0 bs
  pub size : pixel_count bs ≡ end
  pub unmerged : IsUnmerged n bs

-- no leaf, which stands for one before the first
abbrev pub nothing : Leaf
nothing = record { block = no_block; colour = record { 0 = 0 } }

-- three leaves that are none, before the first leaf of a layer
abbrev pub no_leaves : List Leaf
no_leaves = nothing ∷ nothing ∷ nothing ∷ []

-- these are the last three blocks, or fewer behind blocks that are none
pub record EndsIn (bs : List (Block × ℕ)) (recent : List Leaf) : Type 0 where
  pub three : length recent ≡ 3
  pub front : List (Block × ℕ)
  pub split : leaf_pairs no_leaves ++ bs ≡ front ++ leaf_pairs recent

-- the layer with this number has blocks up to a code, the last of which are these
pub record IsGoing (form n : ℕ) (rs : List Record) (layer end : ℕ) (recent : List Leaf) : Type 0 where
  pub blocks : List (Block × ℕ)
  pub has : HasBlocks rs layer n blocks
  pub laid : AreLaid form n end blocks
  pub ends : EndsIn blocks recent

-- The last leaf and the three before it are the quarters of a block and have one colour.
pub record AreSiblings (n : ℕ) (four : List Leaf) (whole : Block × ℕ) : Type 0 where
  pub block : IsBlock n whole.0
  pub wide : 1 < whole.0.side
  pub quarters : leaf_pairs four ≡ map (λ q. (q, whole.1)) (quarters_of whole.0)
