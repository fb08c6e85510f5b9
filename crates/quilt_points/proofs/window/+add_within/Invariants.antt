use Rattle.std.proofs.Common.{◌≡◌, ℕ, suc, ◌+◌, ◌*◌, ◌^◌, ◌≤◌, ◌++◌, true, List, take, Contains}
use Rattle.quilt_store.specs.Calls.{IsOnlyRead}
use Rattle.quilt_types.specs.declared.plane.Point.{Point}
use Rattle.quilt_types.specs.declared.plane.Pixel.{Pixel}
use Rattle.quilt_types.specs.declared.plane.Block.{Block}
use Rattle.quilt_types.specs.Plane.{in_window, in_block}
use Rattle.quilt_record.specs.declared.record.Record.{Record}
use Rattle.quilt_btree.specs.Trees.{IsTree}
use Rattle.quilt_types.specs.Layers.{PointMap}
use Rattle.quilt_points.specs.Layers.{HasPoints, point_entries}
use Rattle.quilt_points.specs.Searches.{IsSearch}
use Rattle.quilt_points.specs.Windows.{IsVisited, IsCovered, visited}
use Rattle.std.specs.List.{sum_by}
use Rattle.quilt_world.specs.Tale.{Goes}
use Rattle.quilt_points.proofs.Unions.{AreOfAll}
use Rattle.quilt_points.proofs.window.+add_within.Given as goal

abbrev pub decreases-add_within : goal.decreases-add_within
decreases-add_within g l = l.b.side

abbrev pub invariant-loop-q : goal.invariant-loop-q
invariant-loop-q g l = record {
  found : (points : PointMap) → HasPoints (g.S.PageStore.told l.fn.store) l.tree l.layer.number l.layer.level l.layer.bucket points
      → IsVisited l.layer.level l.layer.bucket points l.fn.b → (here : List Point) × (l.found.items ≡ l.fn.found.items ++ here)
      × AreOfAll points (in_window l.w) (take l.q-index l.q-items) (point_entries here);
  covered : (rs : List Record) (p : Pixel) → IsTree (g.S.PageStore.told l.fn.store) l.tree rs → in_window l.w p ≡ true
      → (q : Block) → Contains (take l.q-index l.q-items) q → in_block q p ≡ true → IsCovered l.layer.level l.layer.bucket l.layer.number rs p;
  reads : (points : PointMap) (k : ℕ) → HasPoints (g.S.PageStore.told l.fn.store) l.tree l.layer.number l.layer.level l.layer.bucket points
      → IsVisited l.layer.level l.layer.bucket points l.fn.b → l.fn.b.side ≡ 2 ^ suc k
      → Goes {A = ℕ} (λ old new. new ≤ old + (6 + 3 * l.layer.bucket) * (1 + sum_by (visited k l.layer.bucket points l.w) (take l.q-index l.q-items)))
      (g.S.PageStore.reads l.fn.store) (g.S.PageStore.reads l.store);
  left : IsOnlyRead g.S.PageStore l.fn.store l.store;
  search : IsSearch (g.S.PageStore.told l.fn.store) l.tree l.layer.level l.layer.bucket l.layer.number l.search;
}
