-- The facts on the blocks of a point layer: what each is, and the record that it has.
use Rattle.std.proofs.Common.{◌≡◌, ℕ, ◌≤◌, ◌<◌, ◌^◌, true, [], Option, Some, None, refl, ap, Contains}
use Rattle.std.specs.FinMap as finmap
use Rattle.std.proofs.lemmas.List.Elements.{All-contains}
use Rattle.quilt_types.specs.declared.plane.Pixel.{Pixel}
use Rattle.quilt_types.specs.declared.plane.Block.{Block}
use Rattle.quilt_types.specs.declared.plane.Point.{Point}
use Rattle.quilt_types.specs.Plane.{is_pixel, IsBlock}
use Rattle.quilt_types.specs.Layers.{PointMap, IsPointMap}
use Rattle.quilt_types.specs.Facts.{Fact, HoldsPoint, HoldsNoPoint, point_facts}
use Rattle.quilt_types.specs.Quadtrees.{holds_few, point_blocks}
use Rattle.quilt_types.specs.Codes.{depth}
use Rattle.quilt_loc.specs.Codes.{code_from}
use Rattle.quilt_loc.proofs.Members.{Contains-flat_map, Contains-flat_map_from}
use Rattle.quilt_record.specs.declared.key.Key.{Key}
use Rattle.quilt_record.specs.declared.record.Record.{Record}
use Rattle.quilt_record.specs.Canonical.{FactFits, IsRecordOf, point_fact}
use Rattle.quilt_blocks.proofs.Maximal.{IsMaximal, IsMaximal-from, Contains-maximal}
use Rattle.quilt_point_laws.proofs.OnBlocks.{IsOn, on_from, on_is, OfBlock}
use Rattle.quilt_points.specs.Layers.{block_facts, block_record}

module _ (n capacity : ℕ) (points : PointMap) where
  pub block_is : (b : Block) → Contains (point_blocks n capacity points) b → IsMaximal n (holds_few capacity points) b
  unfolding point_blocks
  block_is b m = IsMaximal-from n (holds_few capacity points) b m

  pub block_from : (b : Block) → IsMaximal n (holds_few capacity points) b → Contains (point_blocks n capacity points) b
  unfolding point_blocks
  block_from b g = Contains-maximal n (holds_few capacity points) b g

  pub block_fact_from : (f : Fact) → Contains (block_facts n capacity points) f → OfBlock n capacity points f
  block_fact_from f c =
      let m = Contains-flat_map_from (point_facts points) (point_blocks n capacity points) f c in
      record { block = m.0; maximal = block_is m.0 m.1; on = on_from points m.0 f m.2 }

  pub block_fact_is : (f : Fact) → OfBlock n capacity points f → Contains (block_facts n capacity points) f
  block_fact_is f w =
      Contains-flat_map (point_facts points) (point_blocks n capacity points) w.block f (block_from w.block w.maximal) (on_is points w.block f w.on)

-- a fact on the block says that it holds a point, or none
pub record IsShaped (n : ℕ) (b : Block) (f : Fact) : Type 0 where
  pub held : Option Point
  pub is : f ≡ point_fact b held
  pub fits : FactFits n (point_fact b held)

pub shaped_on : (n capacity : ℕ) (points : PointMap) → IsPointMap 2 n capacity points → (b : Block) → IsBlock n b → (f : Fact)
    → IsOn points b f → IsShaped n b f
shaped_on n capacity points valid b hb (HoldsPoint d q k) o =
    let e : Pixel × ℕ = (q, k) in record {
      held = Some (record { at = q; label = k });
      is = ap (λ (z : Block). HoldsPoint z q k) o.0;
      fits = (
        hb,
        All-contains (λ (e : Pixel × ℕ). is_pixel n e.0 ≡ true) (finmap.entries points) e valid.inside o.1,
        All-contains
            (λ (e : Pixel × ℕ). e.1 < 2 ^ 32) (finmap.entries points) e valid.labels o.1,
      );
    }
shaped_on n capacity points valid b hb (HoldsNoPoint d) o = record { held = None; is = ap HoldsNoPoint o.0; fits = hb }
shaped_on n capacity points valid b hb f o = absurd o

pub shaped : (n capacity : ℕ) (points : PointMap) → IsPointMap 2 n capacity points → (f : Fact) → (w : OfBlock n capacity points f) → IsShaped n w.block f
shaped n capacity points valid f w = shaped_on n capacity points valid w.block (w.maximal).block f w.on

-- the record does not depend on the layer's name
pub point_record_is : (n capacity layer : ℕ) (b : Block) (held : Option Point) → 1 ≤ layer → layer ≤ 255 → FactFits n (point_fact b held)
    → IsRecordOf n capacity (block_record n capacity layer (point_fact b held)) layer (point_fact b held)
point_record_is n capacity layer b None least most h = record { least = least; most = most; fits = h; written = λ name. refl }
point_record_is n capacity layer b (Some p) least most h = record { least = least; most = most; fits = h; written = λ name. refl }

-- the key is one of the block's
pub record IsKeyOf (n number : ℕ) (b : Block) (k : Key) : Type 0 where
  pub layer : k.layer ≡ number
  pub part : k.part ≡ 2
  pub code : k.code ≡ code_from b
  pub depth : k.depth ≡ depth n b

pub key_is : (n capacity layer : ℕ) (points : PointMap) (b : Block) (f : Fact) → IsOn points b f → IsKeyOf n layer b (block_record n capacity layer f).key
key_is n capacity layer points b (HoldsPoint d q k) o = record { layer = refl; part = refl; code = ap code_from o.0; depth = ap (λ (z : Block). depth n z) o.0 }
key_is n capacity layer points b (HoldsNoPoint d) o = record { layer = refl; part = refl; code = ap code_from o.0; depth = ap (λ (z : Block). depth n z) o.0 }
key_is n capacity layer points b f o = absurd o

-- the layer of such a record
pub record_layer : (n capacity : ℕ) (r : Record) (layer : ℕ) (b : Block) (held : Option Point)
    → IsRecordOf n capacity r layer (point_fact b held) → r.key.layer ≡ layer
record_layer n capacity r layer b None h = ap (λ (z : Record). z.key.layer) (h.written [])
record_layer n capacity r layer b (Some p) h = ap (λ (z : Record). z.key.layer) (h.written [])
