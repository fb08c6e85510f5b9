use Rattle.std.proofs.Common.{◌≡◌, ℕ, suc, ◌+◌, ◌*◌, ◌≤◌, true, false, take, sum_by}
use Rattle.quilt_store.specs.Calls.{IsOnlyRead}
use Rattle.quilt_types.specs.Plane.{side}
use Rattle.quilt_types.specs.Layers.{SegMap, BlockSet}
use Rattle.quilt_types.specs.Quadtrees.{is_reached}
use Rattle.quilt_types.specs.Sets as finset
use Rattle.quilt_world.specs.Tale.{Goes}
use Rattle.quilt_lines.specs.Layers.{HasLines}
use Rattle.quilt_lines.specs.Merges.{Gathers}
use Rattle.quilt_lines.specs.Searches.{IsLineSearch}
use Rattle.quilt_lines.specs.Bounds.{is_met_above, due}
use Rattle.quilt_lines.proofs.removal.Removal.+settle.Given as goal

abbrev pub decreases-settle : goal.decreases-settle
decreases-settle g l = 2 * l.b.side + 1

abbrev pub decreases-settle_quarters : goal.decreases-settle_quarters
decreases-settle_quarters g l = 2 * l.b.side

abbrev pub invariant-settle_quarters-loop-q : goal.invariant-settle_quarters-loop-q
invariant-settle_quarters-loop-q g l = record {
  gathered : (k : ℕ) (segs : SegMap) (cover : BlockSet) → l.b.side ≡ side (suc k)
      → HasLines (g.S.PageStore.told l.initial.store) l.tree l.self.layer l.self.level l.self.threshold segs cover
      → Gathers l.self.level l.self.layer l.self.threshold l.self.id segs cover l.self.segment k (take l.q-index l.q-items) l.all;
  search : IsLineSearch (g.S.PageStore.told l.initial.store) l.tree l.self.level l.self.layer l.search;
  left : IsOnlyRead g.S.PageStore l.initial.store l.store;
  reads : (segs : SegMap) (cover : BlockSet)
      → HasLines (g.S.PageStore.told l.initial.store) l.tree l.self.layer l.self.level l.self.threshold segs cover
      → is_reached cover l.b ≡ true → finset.contains cover l.b ≡ false
      → Goes (λ old new. new ≤ old + (0 + sum_by (due l.self.level (is_met_above l.self.level l.self.segment) segs cover) (take l.q-index l.q-items)))
      (g.S.PageStore.reads l.initial.store) (g.S.PageStore.reads l.store);
}
