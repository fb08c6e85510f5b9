use Rattle.std.proofs.Common.{◌≡◌, ℕ, ◌+◌, ◌*◌, ◌<◌, ◌≤◌, get_or, Contains}
use Rattle.quilt_types.specs.declared.plane.Block.{Block}
use Rattle.quilt_types.specs.Plane.{quarters_of}
use Rattle.quilt_types.specs.Layers.{Grid}
use Rattle.quilt_types.specs.Quadtrees.{leaves}
use Rattle.quilt_store.specs.Calls.{IsOnlyRead}
use Rattle.quilt_world.specs.Tale.{Goes}
use Rattle.quilt_region.specs.Regions.{HasRegion}
use Rattle.quilt_region.proofs.neighbours.has_around.Given as goal

abbrev pub invariant-loop-q : goal.invariant-loop-q
invariant-loop-q g l = record {
  others : (j : ℕ) (d : Block) (grid : Grid) → j < l.q-index → HasRegion (g.S.PageStore.told l.initial.store) l.tree l.layer l.level grid
      → (get_or (quarters_of l.fn.larger) j d ≡ l.b → ⊥) → Contains (leaves l.level grid) (get_or (quarters_of l.fn.larger) j d, l.c.0);
  left : IsOnlyRead g.S.PageStore l.initial.store l.store;
  reads : Goes {A = ℕ} (λ old new. new ≤ old + 6 * l.q-index) (g.S.PageStore.reads l.initial.store) (g.S.PageStore.reads l.store);
}
