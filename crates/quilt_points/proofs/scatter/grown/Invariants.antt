use Rattle.std.proofs.Common.{ℕ, ◌+◌, ◌-◌, ◌*◌, ◌≤◌, take, drop, length}
use Rattle.quilt_world.specs.Tale.{Goes}
use Rattle.quilt_store.specs.Calls.{IsOnlyRead}
use Rattle.quilt_types.specs.Layers.{PointMap}
use Rattle.quilt_points.specs.Layers.{HasPoints}
use Rattle.quilt_points.specs.Scattering.{IsGrown}
use Rattle.quilt_points.proofs.scatter.grown.Given as goal

abbrev pub decreases-loop-done : goal.decreases-loop-done
decreases-loop-done g l = length l.news - l.done

abbrev pub invariant-loop-done : goal.invariant-loop-done
invariant-loop-done g l = record {
  grown : (old : PointMap) → HasPoints (g.S.PageStore.told l.initial.store) l.tree l.layer.number l.layer.level l.layer.bucket old
      → IsGrown l.layer.level l.layer.number l.layer.bucket old (take l.done l.news) (drop l.done l.news) l.delta.without.items l.delta.with.items;
  most : l.done ≤ length l.news;
  reads : Goes {A = ℕ} (λ old new. new ≤ old + (12 + 3 * l.layer.bucket) * l.done) (g.S.PageStore.reads l.initial.store) (g.S.PageStore.reads l.store);
  left : IsOnlyRead g.S.PageStore l.initial.store l.store;
}
