use Rattle.std.proofs.Common.{◌≡◌, ℕ, ◌+◌, ◌*◌, ◌++◌, List, get_or, ◌∙◌, ap, ap₂, flat_map, arith}
use Rattle.quilt_types.specs.Plane.{below}
use Rattle.quilt_raster.specs.Showing.{colour_digits, written_in}
use Rattle.quilt_raster.proofs.Rows.{flat_map_below}
use Rattle.quilt_raster.proofs.picture.push_row.Goals as goal

pub loop-dx-preserved : goal.loop-dx-preserved
loop-dx-preserved c =
    let f = c.args.format in
    let cells = c.args.cells.now in
    let at : c.from.result * c.from-2.result + c.loop-dx.dx ≡ c.args.dy * c.args.w.w + c.loop-dx.dx =
    ap₂ (λ a b. a * b + c.loop-dx.dx) c.from.ensures c.from-2.ensures in
    let row : ℕ → List ℕ = λ dx. colour_digits f (written_in f (get_or cells (c.args.dy * c.args.w.w + dx) 0)) in
    c.in_ok-push_colour.ensures ∙ ap₂ (λ (a b : List ℕ). a ++ b) c.loop-dx.invariant (ap (λ k. colour_digits f (written_in f (get_or cells k 0))) at)
    ∙ flat_map_below row c.args.text.now c.loop-dx.dx

pub returns : goal.returns
returns c =
    let f = c.args.format in
    let row : ℕ → List ℕ = λ dx. colour_digits f (written_in f (get_or c.args.cells.now (c.args.dy * c.args.w.w + dx) 0)) in
    let all = c.loop-dx-test.false in
    let few = c.loop-dx.auto.dx-end in
    let wide = c.from-dx-end.ensures in
    let is : c.loop-dx.dx ≡ c.args.w.w = omega arith in
    c.loop-dx.invariant ∙ ap (λ k. c.args.text.now ++ flat_map row (below k)) is
