use Rattle.std.proofs.Common.{◌≡◌, ◌≤◌, ◌+◌, ◌*◌, ◌-◌, ◌^◌, ℕ, take, flat_map, get_or, count_by}
use Rattle.std.specs.Prelude.{◌==◌}
use Rattle.std.specs.List.{sum_by}
use Rattle.quilt_world.specs.Tale.{Goes}
use Rattle.quilt_store.specs.Calls.{IsOnlyRead}
use Rattle.quilt_types.specs.Layers.{SegMap, BlockSet}
use Rattle.quilt_types.specs.Plane.{side}
use Rattle.quilt_lines.specs.Layers.{HasLines}
use Rattle.quilt_lines.specs.Counting.{held_in, pages_in}
use Rattle.quilt_lines.proofs.view.LineView.+count_in.Given as goal

abbrev pub decreases-count_in : goal.decreases-count_in
decreases-count_in g l = l.k

abbrev pub invariant-loop-q : goal.invariant-loop-q
invariant-loop-q g l = record {
  counts : (t : ℕ) (segs : SegMap) (cover : BlockSet) → HasLines (g.S.PageStore.told l.fn.store) l.self.tree l.self.layer l.self.level t segs cover
      → (j : ℕ) → get_or l.counts j 0 ≡ get_or l.fn.counts j 0 + count_by (λ c. c.side == side j)
      (flat_map (held_in cover (l.k - 1)) (take l.q-index l.q-items));
  most : (j : ℕ) → get_or l.counts j 0 ≤ get_or l.fn.counts j 0 + l.q-index * 4 ^ (l.k - 1);
  reads : (t : ℕ) (segs : SegMap) (cover : BlockSet) → HasLines (g.S.PageStore.told l.fn.store) l.self.tree l.self.layer l.self.level t segs cover
      → Goes {A = ℕ} (λ old new. new ≤ old + (6 + sum_by (pages_in cover (l.k - 1)) (take l.q-index l.q-items)))
      (g.S.PageStore.reads l.fn.store) (g.S.PageStore.reads l.store);
  left : IsOnlyRead g.S.PageStore l.fn.store l.store;
}
