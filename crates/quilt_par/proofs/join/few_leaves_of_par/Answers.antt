use Rattle.std.proofs.Common.{◌*◌}
use Rattle.quilt_types.specs.Plane.{side}
use Rattle.quilt_raster.specs.Bytes.{cell_colours}
use Rattle.quilt_raster.proofs.Bytes.{length-colours_of_bytes}
use Rattle.quilt_par.proofs.Quadrants.{ShowAll-answered, ShowAll-wide}
use Rattle.quilt_par.proofs.join.few_leaves_of_par.Goals as goal

pub merged-requires-clause-wide : goal.merged-requires-clause-wide
merged-requires-clause-wide g c =
    let n = c.args.level in
    let grid = cell_colours c.args.colours.now in
    let e = c.in_ok-four.ensures in
    ShowAll-wide n grid _ c.requires.least
    (ShowAll-answered n grid c.in_ok-four.field-0 c.in-Some.four c.in-Some.is e.first e.second e.third e.fourth)

pub returns-clause-some : goal.returns-clause-some
returns-clause-some g c =
    let n = c.args.level in
    let grid = cell_colours c.args.colours.now in
    let e = c.in_ok-four.ensures in
    c.in_ok-list.ensures grid (length-colours_of_bytes (side n * side n) c.args.colours.now c.requires.all)
    (ShowAll-answered n grid c.in_ok-four.field-0 c.in-Some.four c.in-Some.is e.first e.second e.third e.fourth)
