use Rattle.std.proofs.Common.{◌≡◌, ◌≤◌, ◌+◌, ℕ, suc, true, take, flat_map, sum_by, None}
use Rattle.std.specs.FinMap as finmap
use Rattle.quilt_store.specs.Calls.{IsOnlyRead}
use Rattle.quilt_types.specs.Layers.{SegMap, BlockSet}
use Rattle.quilt_types.specs.Plane.{side}
use Rattle.quilt_types.specs.Quadtrees.{is_reached}
use Rattle.quilt_world.specs.Tale.{Goes}
use Rattle.quilt_line_laws.specs.Merging.{met_in}
use Rattle.quilt_lines.specs.Layers.{HasLines}
use Rattle.quilt_lines.specs.Adding.{IsAdded}
use Rattle.quilt_lines.specs.Bounds.{is_met, due}
use Rattle.quilt_lines.specs.Searches.{IsLineSearch}
use Rattle.quilt_lines.proofs.addition.Arrival.+add_in.Given as goal

abbrev pub decreases-add_in : goal.decreases-add_in
decreases-add_in g l = l.b.side

abbrev pub invariant-loop-q : goal.invariant-loop-q
invariant-loop-q g l = record {
  added : (segs : SegMap) (cover : BlockSet)
      → HasLines (g.S.PageStore.told l.fn.store) l.self.view.tree l.self.view.layer l.self.view.level l.self.t segs cover
      → finmap.get segs l.self.id ≡ None → (k : ℕ) → l.fn.b.side ≡ side (suc k)
      → IsAdded l.self.view.level l.self.view.layer l.self.t segs l.self.id l.self.s (flat_map (met_in cover l.self.s k) (take l.q-index l.q-items))
      l.fn.change.gone.items l.change.gone.items l.fn.change.come.items l.change.come.items;
  search : IsLineSearch (g.S.PageStore.told l.fn.store) l.self.view.tree l.self.view.level l.self.view.layer l.search;
  left : IsOnlyRead g.S.PageStore l.fn.store l.store;
  reads : (segs : SegMap) (cover : BlockSet)
      → HasLines (g.S.PageStore.told l.fn.store) l.self.view.tree l.self.view.layer l.self.view.level l.self.t segs cover
      → is_reached cover l.fn.b ≡ true
      → Goes (λ old new. new ≤ old + (12 + sum_by (due l.self.view.level (is_met l.self.s) segs cover) (take l.q-index l.q-items)))
      (g.S.PageStore.reads l.fn.store) (g.S.PageStore.reads l.store);
}
