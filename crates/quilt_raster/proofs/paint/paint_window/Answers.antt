use Rattle.std.proofs.Common.{sym, arith}
use Rattle.quilt_blocks.proofs.Painting.{code_in}
use Rattle.quilt_blocks.proofs.Squares.{whole_at}
use Rattle.quilt_raster.proofs.Rows.{ArePainted-none, ArePainted-all}
use Rattle.quilt_raster.proofs.paint.paint_window.Goals as goal

pub paint-requires-clause-valid : goal.paint-requires-clause-valid
paint-requires-clause-valid c = whole_at _ _ _ (sym c.level-level.ensures.value) c.whole_square.ensures

pub paint-requires-clause-before : goal.paint-requires-clause-before
paint-requires-clause-before c = ArePainted-none c.args.list.now.level _ c.args.list.now.grid c.args.w _ c.args.cells.now c.whole_square.ensures

pub returns-clause-painted : goal.returns-clause-painted
returns-clause-painted c p i =
    let n = c.args.list.now.level in
    let most = c.level-level.ensures.raster.most in
    let all = ArePainted-all n _ c.args.list.now.grid c.args.w _ c.paint.new.cells c.level-level.ensures.value c.whole_square.ensures c.paint.ensures.after in
    let x = c.requires.in_x in
    let y = c.requires.in_y in
    let r = i.right in
    let d = i.bottom in
    all.each p i (code_in n p most (omega arith) (omega arith))
