use Rattle.std.proofs.Common.{ℕ, ◌*◌, ◌^◌, sym, ◌∙◌, ap}
use Rattle.quilt_types.specs.Plane.{side}
use Rattle.quilt_blocks.specs.Painting.{Painted, grid_by_code}
use Rattle.quilt_blocks.proofs.Adding.{whole_next, Adds-all}
use Rattle.quilt_blocks.proofs.Squares.{whole_at}
use Rattle.quilt_raster.specs.Bytes.{cell_colours, from_corner}
use Rattle.quilt_raster.proofs.Bytes.{length-colours_of_bytes}
use Rattle.quilt_raster.proofs.Points.{all_added, grid_from_corner}
use Rattle.quilt_raster.proofs.leaves.leaves_of.Goals as goal

pub add_square-requires-clause-valid : goal.add_square-requires-clause-valid
add_square-requires-clause-valid c = whole_at _ _ _ (ap (λ (m : Painted). m.level) c.new-maker.ensures) c.whole_square-whole.ensures

pub add_square-requires-clause-next : goal.add_square-requires-clause-next
add_square-requires-clause-next c = whole_next _ _ _ c.whole_square-whole.ensures c.new-maker.ensures

pub finish-requires : goal.finish-requires
finish-requires c =
    let n = c.args.level in
    let all = all_added n (from_corner n (cell_colours c.args.colours.now) (record { x = 0; y = 0 }))
    _ c.new-maker.result c.add_square.new.maker c.whole_square-whole.ensures c.new-maker.ensures c.in_ok-add_square.ensures in
    all.long ∙ ap (λ (k : ℕ). 4 ^ k) (sym all.level)

pub returns : goal.returns
returns c =
    let n = c.args.level in
    let g = cell_colours c.args.colours.now in
    let f = from_corner n g (record { x = 0; y = 0 }) in
    let all = all_added n f _ c.new-maker.result c.add_square.new.maker c.whole_square-whole.ensures c.new-maker.ensures c.in_ok-add_square.ensures in
    let level = c.finish.ensures.level ∙ all.level in
    let grid = c.finish.ensures.value ∙ ap (λ (k : ℕ). grid_by_code k c.add_square.new.maker.colours) all.level
    ∙ Adds-all n f c.add_square.new.maker c.requires.most all
    ∙ grid_from_corner n g (length-colours_of_bytes (side n * side n) c.args.colours.now c.requires.all) in
    λ i. record { level = level i; grid = grid i }
