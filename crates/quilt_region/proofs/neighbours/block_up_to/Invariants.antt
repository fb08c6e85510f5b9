use Rattle.std.proofs.Common.{◌≡◌, ℕ, ◌+◌, ◌-◌, ◌*◌, ◌^◌, ◌≤◌}
use Rattle.quilt_types.specs.Plane.{IsBlock, Within}
use Rattle.quilt_types.specs.Layers.{Grid}
use Rattle.quilt_store.specs.Calls.{IsOnlyRead}
use Rattle.quilt_world.specs.Tale.{Goes}
use Rattle.quilt_region.specs.Regions.{HasRegion}
use Rattle.quilt_region.specs.Windows.{HasAround, IsCutOut}
use Rattle.quilt_region.proofs.neighbours.block_up_to.Given as goal

abbrev pub decreases-loop-larger : goal.decreases-loop-larger
decreases-loop-larger g l = 4096 - l.top.side

abbrev pub invariant-loop-larger : goal.invariant-loop-larger
invariant-loop-larger g l = record {
  block : IsBlock l.level l.top;
  inside : Within l.fn.b l.top;
  same : (grid : Grid) → HasRegion (g.S.PageStore.told l.initial.store) l.tree l.layer l.level grid → HasAround l.level grid l.top l.fn.b l.c.0;
  cut_out : (grid : Grid) → HasRegion (g.S.PageStore.told l.initial.store) l.tree l.layer l.level grid → IsCutOut l.level grid l.fn.b
      → IsCutOut l.level grid l.top;
  left : IsOnlyRead g.S.PageStore l.initial.store l.store;
  reads : (j k : ℕ) → l.fn.b.side ≡ 2 ^ j → l.top.side ≡ 2 ^ k
      → Goes {A = ℕ} (λ old new. new + 24 * j ≤ old + 24 * k) (g.S.PageStore.reads l.initial.store) (g.S.PageStore.reads l.store);
}
