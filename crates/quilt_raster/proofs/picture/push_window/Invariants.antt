use Rattle.std.proofs.Common.{◌≡◌, ◌≤◌, ◌-◌, ◌++◌, [], ◌∷◌, flat_map, map, length}
use Rattle.quilt_types.specs.Plane.{below}
use Rattle.quilt_raster.specs.Showing.{window_row, written_in}
use Rattle.quilt_raster.proofs.picture.push_window.Given as goal

abbrev pub invariant-loop-done : goal.invariant-loop-done
invariant-loop-done l = record {
  inside : l.done ≤ l.fn.w.h;
  long : length l.cells ≡ length l.initial.cells;
  lines :
      l.text ≡ l.initial.text
      ++ flat_map (λ dy. window_row l.format l.list.level (map (written_in l.format) l.list.grid) l.fn.w dy ++ 10 ∷ []) (below l.done);
}

abbrev pub decreases-loop-done : goal.decreases-loop-done
decreases-loop-done l = l.fn.w.h - l.done
