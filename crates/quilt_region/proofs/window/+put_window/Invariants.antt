use Rattle.std.proofs.Common.{◌≡◌, ℕ, ◌+◌, ◌*◌, ◌/◌, ◌≤◌, length, take}
use Rattle.std.specs.List.{sum_by}
use Rattle.quilt_types.specs.Plane.{quarters_of}
use Rattle.quilt_types.specs.Layers.{Grid}
use Rattle.quilt_loc.specs.Codes.{code_from}
use Rattle.quilt_store.specs.Calls.{IsOnlyRead}
use Rattle.quilt_world.specs.Tale.{Goes}
use Rattle.quilt_region.specs.Painting.{HasColours}
use Rattle.quilt_region.specs.Regions.{HasRegion}
use Rattle.quilt_region.specs.Covers.{cover_of, cover_colour, cost_in}
use Rattle.quilt_region.proofs.window.+put_window.Given as goal

abbrev pub decreases-put_window : goal.decreases-put_window
decreases-put_window g l = l.b.side

abbrev pub invariant-loop-q : goal.invariant-loop-q
invariant-loop-q g l = record {
  level : l.maker.level ≡ l.level;
  long : length l.maker.colours ≡ code_from l.fn.b + l.q-index * (l.fn.b.side / 2 * (l.fn.b.side / 2));
  colours : (grid : Grid) → HasRegion (g.S.PageStore.told l.initial.store) l.tree l.layer l.level grid
      → HasColours l.level (cover_colour l.level grid l.side l.w) l.initial.maker.colours
      → HasColours l.level (cover_colour l.level grid l.side l.w) l.maker.colours;
  left : IsOnlyRead g.S.PageStore l.initial.store l.store;
  reads : (grid : Grid) → HasRegion (g.S.PageStore.told l.initial.store) l.tree l.layer l.level grid
      → Goes {A = ℕ} (λ old new. new ≤ old + sum_by (cost_in l.level grid (cover_of l.side l.w)) (take l.q-index (quarters_of l.fn.b)))
      (g.S.PageStore.reads l.initial.store) (g.S.PageStore.reads l.store);
}
