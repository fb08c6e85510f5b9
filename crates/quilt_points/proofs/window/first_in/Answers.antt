use Rattle.std.proofs.Common.{arith}
use Rattle.quilt_points.proofs.Singles.{do_meet, block_fits}
use Rattle.quilt_points.proofs.window.first_in.Goals.{then-b-w, else-b-w}
use Rattle.quilt_loc.proofs.Nesting.{side_pos}
use Rattle.quilt_points.proofs.window.first_in.Goals as goal

pub returns-then-b-w-2-clause-in_x : goal.returns-then-b-w-2-clause-in_x
returns-then-b-w-2-clause-in_x c =
    let m = do_meet c.args.w c.args.b c.requires.meets in
    let f = block_fits c.args.layer.level c.args.b c.requires.block in
    let r = m.right in
    let s = f.right in
    let p = side_pos c.args.layer.level c.args.b c.requires.block in
    elim c.if-b-w.branch [ then-b-w w ↦ (let is = w.result-is in omega arith) | else-b-w w ↦ (let is = w.result-is in omega arith) ]

pub returns-then-b-w-2-clause-in_y : goal.returns-then-b-w-2-clause-in_y
returns-then-b-w-2-clause-in_y c =
    let m = do_meet c.args.w c.args.b c.requires.meets in
    let f = block_fits c.args.layer.level c.args.b c.requires.block in
    let r = m.bottom in
    let s = f.bottom in
    omega arith

pub returns-else-b-w-2-clause-in_x : goal.returns-else-b-w-2-clause-in_x
returns-else-b-w-2-clause-in_x c =
    let m = do_meet c.args.w c.args.b c.requires.meets in
    let f = block_fits c.args.layer.level c.args.b c.requires.block in
    let r = m.right in
    let s = f.right in
    let p = side_pos c.args.layer.level c.args.b c.requires.block in
    elim c.if-b-w.branch [ then-b-w w ↦ (let is = w.result-is in omega arith) | else-b-w w ↦ (let is = w.result-is in omega arith) ]
