use Rattle.std.proofs.Common.{◌≡◌, ◌+◌, ◌*◌, ◌++◌, flat_map, slice_index}
use Rattle.quilt_types.specs.Plane.{below}
use Rattle.quilt_raster.specs.Showing.{colour_digits, written_in}
use Rattle.quilt_raster.proofs.picture.push_row.Given as goal

abbrev pub invariant-loop-dx : goal.invariant-loop-dx
invariant-loop-dx l =
    l.text ≡ l.initial.text ++ flat_map (λ dx. colour_digits l.format (written_in l.format (slice_index l.cells (l.dy * l.fn.w.w + dx)))) (below l.dx)
