use Rattle.quilt_raster.specs.Bytes.{cell_colours}
use Rattle.std.proofs.lemmas.Result.{IfOk-weaker}
use Rattle.quilt_par.proofs.Quadrants.{quadrant_past}
use Rattle.quilt_par.proofs.square.part_of.Goals as goal

pub returns-else-level-eq1-clause-none : goal.returns-else-level-eq1-clause-none
returns-else-level-eq1-clause-none g c =
    IfOk-weaker c.square_of.result _ _ (λ part past none.
    quadrant_past c.args.level c.args.number (cell_colours c.args.colours.now) c.quadrant-block.result c.args.most c.requires.least c.requires.four
    c.quadrant-block.ensures.value (past none)) c.square_of.ensures.past
