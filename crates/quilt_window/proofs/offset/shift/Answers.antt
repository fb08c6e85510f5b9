use Rattle.std.proofs.Common.{◌≡◌, ap₂, subst, w32, ◌<◌, ◌∙◌, sym}
use Rattle.std.proofs.lemmas.Int.{to_z-of_z}
use Rattle.std.specs.Prelude.{IfOk}
use Rattle.quilt_types.specs.Plane.{side}
use Rattle.quilt_types.specs.Layers.{Grid}
use Rattle.quilt_types.specs.Algebra.{colour_from, moved}
use Rattle.quilt_blocks.specs.Raster.{Raster}
use Rattle.quilt_window.specs.Copying.{copied_colour}
use Rattle.quilt_blocks.proofs.Squares.{grid_of-same}
use Rattle.quilt_window.proofs.offset.shift.Goals as goal

pub returns : goal.returns
returns c =
    let n = c.args.a.now.level in
    let g = c.args.a.now.grid in
    let level = c.level-level.ensures.value in
    let same = grid_of-same n (copied_colour n g c.moved.result c.moved-2.result) (λ p. colour_from n g (moved n p.x c.args.dx) (moved n p.y c.args.dy))
    (λ p hx hy. ap₂ (colour_from n g)
    (c.moved.ensures.value p.x (subst (λ k. p.x < side k) (sym level) hx) ∙ ap₂ (λ k d. moved k p.x d) level (to_z-of_z w32 c.args.dx c.ranges.dx))
    (c.moved-2.ensures.value p.y (subst (λ k. p.y < side k) (sym level) hy) ∙ ap₂ (λ k d. moved k p.y d) level (to_z-of_z w32 c.args.dy c.ranges.dy))) in
    subst (λ (h : Grid). IfOk c.copy.result (λ (list : Raster). list ≡ record { level = n; grid = h })) same c.copy.ensures
