use Rattle.std.proofs.Common.{◌≡◌, ℕ, ◌+◌, ◌-◌, ◌*◌, ◌≤◌, true, All, Some}
use Rattle.std.specs.FinMap as finmap
use Rattle.quilt_store.specs.Calls.{IsOnlyRead}
use Rattle.quilt_world.specs.Tale.{Goes}
use Rattle.quilt_types.specs.declared.plane.Pixel.{Pixel}
use Rattle.quilt_types.specs.Plane.{is_pixel, IsBlock}
use Rattle.quilt_types.specs.Layers.{PointMap}
use Rattle.quilt_points.specs.Layers.{HasPoints}
use Rattle.quilt_points.specs.Climbing.{IsOnWay}
use Rattle.quilt_points.proofs.climb.topmost.Given as goal

abbrev pub decreases-loop-top : goal.decreases-loop-top
decreases-loop-top g l = 4096 - l.top.block.side

abbrev pub invariant-loop-top : goal.invariant-loop-top
invariant-loop-top g l = record {
  way : (points : PointMap) (p : Pixel) (label : ℕ)
      → HasPoints (g.S.PageStore.told l.initial.store) l.tree l.layer.number l.layer.level l.layer.bucket points → finmap.get points p ≡ Some label
      → IsOnWay l.layer.level l.layer.bucket points p l.initial.top.block l.initial.top.points.items
      → IsOnWay l.layer.level l.layer.bucket points p l.top.block l.top.points.items;
  block : IsBlock l.layer.level l.top.block;
  pixels : All (λ p. is_pixel l.layer.level p.at ≡ true) l.top.points.items;
  reads : Goes {A = ℕ} (λ old new. new ≤ old + (18 + 9 * l.layer.bucket) * block.level) (g.S.PageStore.reads l.initial.store) (g.S.PageStore.reads l.store);
  left : IsOnlyRead g.S.PageStore l.initial.store l.store;
}
