use Rattle.std.proofs.Common.{◌≡◌, ℕ, ◌+◌, ◌*◌, ◌<◌, ◌≤◌, true, All, take, get_or, Some}
use Rattle.std.specs.FinMap as finmap
use Rattle.quilt_store.specs.Calls.{IsOnlyRead}
use Rattle.quilt_world.specs.Tale.{Goes}
use Rattle.quilt_types.specs.declared.plane.Pixel.{Pixel}
use Rattle.quilt_types.specs.declared.plane.Block.{Block}
use Rattle.quilt_types.specs.Plane.{is_pixel}
use Rattle.quilt_types.specs.Layers.{PointMap}
use Rattle.quilt_points.specs.Layers.{HasPoints, point_entries}
use Rattle.quilt_btree.specs.Spots.{IsSpotIf}
use Rattle.quilt_points.specs.Climbing.{IsOnWay}
use Rattle.quilt_points.proofs.Unions.{AreOfAll}
use Rattle.quilt_points.proofs.climb.joined.Given as goal

abbrev pub invariant-loop-q : goal.invariant-loop-q
invariant-loop-q g l = record {
  all : (points : PointMap) (p : Pixel) (label : ℕ)
      → HasPoints (g.S.PageStore.told l.initial.store) l.tree l.layer.number l.layer.level l.layer.bucket points → finmap.get points p ≡ Some label
      → IsOnWay l.layer.level l.layer.bucket points p l.leaf.block l.leaf.points.items
      → AreOfAll (finmap.remove points p) (λ q. true) (take l.q-index l.q-items) (point_entries l.all.items);
  pixels : All (λ p. is_pixel l.layer.level p.at ≡ true) l.all.items;
  few : l.q-index ≤ 4;
  reads : Goes {A = ℕ} (λ old new. new ≤ old + (6 + 3 * l.layer.bucket) * l.q-index) (g.S.PageStore.reads l.initial.store) (g.S.PageStore.reads l.store);
  spared : (j : ℕ) (d : Block) → j < l.q-index → get_or l.q-items j d ≡ l.leaf.block
      → Goes {A = ℕ} (λ old new. new + (6 + 3 * l.layer.bucket) ≤ old + (6 + 3 * l.layer.bucket) * l.q-index) (g.S.PageStore.reads l.initial.store)
      (g.S.PageStore.reads l.store);
  spot : IsSpotIf (g.S.PageStore.told l.initial.store) l.tree l.spot;
  left : IsOnlyRead g.S.PageStore l.initial.store l.store;
}
