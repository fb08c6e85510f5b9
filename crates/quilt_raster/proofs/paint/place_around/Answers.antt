use Rattle.std.proofs.Common.{arith}
use Rattle.quilt_loc.proofs.Blocks.{side_most}
use Rattle.quilt_raster.proofs.Places.{first_code, held_at}
use Rattle.quilt_raster.proofs.paint.place_around.Goals as goal

pub loop-high-init : goal.loop-high-init
loop-high-init c =
    let n = c.args.list.now.level in
    let g = c.args.list.now.grid in
    let most = c.len-high.ensures.raster.most in
    let long = c.len-high.ensures.value in
    let some = c.len-high.ensures.some in
    record {
      some = omega arith;
      inside = omega arith;
      from = λ d. let z = first_code n g most d (omega arith) in omega arith;
      to = λ d lt. absurd (omega arith);
    }

pub code_of-code-requires-clause-in_x : goal.code_of-code-requires-clause-in_x
code_of-code-requires-clause-in_x c =
    let m = side_most c.args.list.now.level c.len-high.ensures.raster.most in
    let r = c.requires.in_x in
    omega arith

pub code_of-code-requires-clause-in_y : goal.code_of-code-requires-clause-in_y
code_of-code-requires-clause-in_y c =
    let m = side_most c.args.list.now.level c.len-high.ensures.raster.most in
    let r = c.requires.in_y in
    omega arith

pub code_of-requires-clause-in_x : goal.code_of-requires-clause-in_x
code_of-requires-clause-in_x c =
    let m = side_most c.args.list.now.level c.len-high.ensures.raster.most in
    let r = c.leaf-y.ensures.block.in_x in
    omega arith

pub code_of-requires-clause-in_y : goal.code_of-requires-clause-in_y
code_of-requires-clause-in_y c =
    let m = side_most c.args.list.now.level c.len-high.ensures.raster.most in
    let r = c.leaf-y.ensures.block.in_y in
    omega arith

pub returns-clause-held : goal.returns-clause-held
returns-clause-held c d =
    let inv = c.loop-high.invariant in
    let some = inv.some in
    let inside = inv.inside in
    let v = c.code_of-code.ensures.value in
    let f = inv.from d in
    let end = c.loop-high-test.false in
    held_at c.args.list.now.level c.args.list.now.grid c.len-high.ensures.raster.most c.args.p c.loop-high.low c.loop-high.high d c.requires.in_x
    c.requires.in_y some (omega arith) inside (omega arith) (λ lt. let t = inv.to d lt in omega arith)
