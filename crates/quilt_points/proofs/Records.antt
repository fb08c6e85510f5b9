-- The records of a point layer in a rising list.
use Rattle.std.proofs.Common.{◌≡◌, ℕ, List, [], ◌∷◌, map, Contains, filter, refl}
use Rattle.std.specs.FinMap as finmap
use Rattle.quilt_types.specs.declared.plane.Pixel.{Pixel}
use Rattle.quilt_types.specs.declared.plane.Block.{Block}
use Rattle.quilt_types.specs.Plane.{in_block}
use Rattle.quilt_types.specs.Layers.{PointMap}
use Rattle.quilt_types.specs.Facts.{Fact, HoldsPoint, HoldsNoPoint, or_none}
use Rattle.quilt_types.specs.Quadtrees.{holds_few}
use Rattle.quilt_loc.proofs.Members.{Contains-here, Contains-map_from}
use Rattle.quilt_record.specs.declared.record.Record.{Record}
use Rattle.quilt_blocks.proofs.Maximal.{IsMaximal}
use Rattle.quilt_point_laws.proofs.OnBlocks.{on_from, OfBlock}
use Rattle.quilt_points.specs.Layers.{block_facts, block_record, SpellsPoints}
use Rattle.quilt_points.proofs.Shapes.{block_fact_from, block_fact_is}

some_fact : (none : Fact) (fs : List Fact) → (f : Fact) × Contains (or_none none fs) f
some_fact none [] = (none, Contains-here none [])
some_fact none (f ∷ fs) = (f, Contains-here f fs)

module _ (rs : List Record) (layer n capacity : ℕ) (points : PointMap) (spells : SpellsPoints rs layer n capacity points) where
  -- the record of a fact on a block
  pub fact_there : (f : Fact) → OfBlock n capacity points f → Contains rs (block_record n capacity layer f)
  fact_there f w = spells.each f (block_fact_is n capacity points f w)

  -- the fact that a record of the layer is
  pub fact_at : (r : Record) → Contains rs r → r.key.layer ≡ layer → (f : Fact) × OfBlock n capacity points f × (block_record n capacity layer f ≡ r)
  fact_at r c e =
      let m = Contains-map_from (block_record n capacity layer) (block_facts n capacity points) r (spells.only r c e) in
      (m.0, block_fact_from n capacity points m.0 m.1, m.2)

-- each block has a fact
pub some_on : (n capacity : ℕ) (points : PointMap) (b : Block) → IsMaximal n (holds_few capacity points) b
    → (f : Fact) × (w : OfBlock n capacity points f) × (w.block ≡ b)
some_on n capacity points b g =
    let s = some_fact (HoldsNoPoint b) (map (λ (e : Pixel × ℕ). HoldsPoint b e.0 e.1) (filter (λ (e : Pixel × ℕ). in_block b e.0) (finmap.entries points))) in
    (s.0, record { block = b; maximal = g; on = on_from points b s.0 s.1 }, refl)
