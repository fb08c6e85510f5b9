use Rattle.std.proofs.Common.{◌≡◌, ◌*◌, ap₂, arith}
use Rattle.quilt_raster.proofs.Tiles.{tile_room, one_row_more}
use Rattle.quilt_raster.proofs.grid.one_colour.Goals as goal

pub is_run-requires : goal.is_run-requires
is_run-requires c =
    let within = c.requires.within in
    let l = within.left in
    let r = within.right in
    let t = within.top in
    let d = within.bottom in
    let w = c.from-row.ensures in
    let y = c.from.ensures in
    let x = c.from-2.ensures in
    let long = c.from-length.ensures in
    let lt = c.loop-dy-test.true in
    let room = c.requires.room in
    let area : c.from-row.result * c.from-row.result ≡ c.args.tile.side * c.args.tile.side = ap₂ (λ i j. i * j) w w in
    let fits = tile_room c.from-row.result c.from.result c.from-2.result c.loop-dy.dy c.from-length.result (omega arith) (omega arith) in
    omega arith

pub loop-dy-preserved : goal.loop-dy-preserved
loop-dy-preserved c =
    let within = c.requires.within in
    let l = within.left in
    let t = within.top in
    let y = c.from.ensures in
    let x = c.from-2.ensures in
    let long = c.from-length.ensures in
    let run = c.is_run.ensures.all c.if-not-is_run.false in
    one_row_more c.args.cells.now c.args.tile c.args.b c.from-row.result c.from.result c.from-2.result c.loop-dy.dy _ c.from-row.ensures
    (omega arith) (omega arith) c.loop-dy.invariant (λ k from to. run k (omega arith) (omega arith))
