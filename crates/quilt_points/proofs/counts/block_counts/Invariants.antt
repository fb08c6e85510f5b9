use Rattle.std.proofs.Common.{◌≡◌, ℕ, ◌+◌, ◌-◌, ◌*◌, ◌≤◌, length, get_or}
use Rattle.quilt_types.specs.Layers.{PointMap}
use Rattle.quilt_store.specs.Calls.{IsOnlyRead}
use Rattle.quilt_world.specs.Tale.{Goes}
use Rattle.quilt_points.specs.Layers.{HasPoints}
use Rattle.quilt_points.proofs.Countings.{AreSeen}
use Rattle.quilt_points.proofs.counts.block_counts.Given as goal

abbrev pub decreases-loop-code : goal.decreases-loop-code
decreases-loop-code g l = l.end - l.code

abbrev pub invariant-loop-code : goal.invariant-loop-code
invariant-loop-code g l = record {
  long : length l.counts ≡ 13;
  most : (k : ℕ) → get_or l.counts k 0 ≤ l.code;
  seen : (points : PointMap) → HasPoints (g.S.PageStore.told l.initial.store) l.tree l.layer l.level l.bucket points
      → (s : AreSeen l.level l.bucket points l.code l.counts)
      × Goes (λ old new. new ≤ old + 6 * length s.blocks) (g.S.PageStore.reads l.initial.store) (g.S.PageStore.reads l.store);
  left : IsOnlyRead g.S.PageStore l.initial.store l.store;
}
