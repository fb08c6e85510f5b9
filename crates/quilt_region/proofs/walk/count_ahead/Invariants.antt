use Rattle.std.proofs.Common.{◌≡◌, ℕ, ◌-◌, ◌≤◌, length, get_or}
use Rattle.quilt_types.specs.Layers.{Grid}
use Rattle.quilt_blocks.specs.Cutting.{leaves_by_code}
use Rattle.quilt_store.specs.Calls.{IsOnlyRead}
use Rattle.quilt_region.specs.Walks.{IsAhead, StandsInTree}
use Rattle.quilt_region.proofs.Walking.{IsCounted}
use Rattle.quilt_region.proofs.walk.count_ahead.Given as goal

abbrev pub decreases-loop-code : goal.decreases-loop-code
decreases-loop-code g l = l.end - l.code

abbrev pub invariant-loop-code : goal.invariant-loop-code
invariant-loop-code g l = record {
  long : length l.counts ≡ 13;
  most : (k : ℕ) → k ≤ 12 → get_or l.counts k 0 ≤ l.code;
  seen : (grid : Grid) → IsAhead (g.S.PageStore.told l.initial.store) l.tree l.initial.cursor l.layer l.level (leaves_by_code l.level grid)
      → IsCounted (g.S.PageStore.told l.initial.store) l.tree l.cursor l.layer l.level (leaves_by_code l.level grid) l.code l.counts
      (g.S.PageStore.reads l.initial.store) (g.S.PageStore.reads l.store);
  stands : StandsInTree (g.S.PageStore.told l.initial.store) l.tree l.initial.cursor → StandsInTree (g.S.PageStore.told l.initial.store) l.tree l.cursor;
  left : IsOnlyRead g.S.PageStore l.initial.store l.store;
}
