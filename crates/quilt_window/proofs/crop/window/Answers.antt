use Rattle.std.proofs.Common.{◌≡◌, subst, cond}
use Rattle.std.specs.Prelude.{IfOk}
use Rattle.quilt_types.specs.Plane.{in_window}
use Rattle.quilt_types.specs.Layers.{Grid, colour_at}
use Rattle.quilt_blocks.specs.Raster.{Raster}
use Rattle.quilt_window.specs.Copying.{copied_colour}
use Rattle.quilt_blocks.proofs.Squares.{grid_of-same}
use Rattle.quilt_window.proofs.Sources.{copied_window}
use Rattle.quilt_window.proofs.crop.window.Goals as goal

pub returns : goal.returns
returns c =
    let n = c.args.a.now.level in
    let g = c.args.a.now.grid in
    let w = c.args.w in
    let same = grid_of-same n (copied_colour n g (record { from = w.x; to = w.x; length = w.w }) (record { from = w.y; to = w.y; length = w.h }))
    (λ p. cond (in_window w p) (colour_at n g p) 0)
    (λ p hx hy. copied_window n g w p) in
    subst (λ (h : Grid). IfOk c.copy.result (λ (list : Raster). list ≡ record { level = n; grid = h })) same c.copy.ensures
