use Rattle.std.proofs.Common.{sym, ◌∙◌, ltb-true, arith}
use Rattle.quilt_loc.proofs.Blocks.{side_most}
use Rattle.quilt_window.proofs.Sources.{begins_in, right_block, lower_block, last_block, side_some}
use Rattle.quilt_window.proofs.copy.colour_around.Goals.{then-is_across, else-is_across}
use Rattle.quilt_window.proofs.copy.colour_around.Goals as goal

pub block_at-y-requires-clause-in_x : goal.block_at-y-requires-clause-in_x
block_at-y-requires-clause-in_x c =
    let m = side_most c.args.a.now.level c.requires.most in
    let x = c.requires.in_x in
    let p = side_some c.args.side c.requires.power in
    omega arith

pub block_at-y-requires-clause-in_y : goal.block_at-y-requires-clause-in_y
block_at-y-requires-clause-in_y c =
    let m = side_most c.args.a.now.level c.requires.most in
    let y = c.requires.in_y in
    let p = side_some c.args.side c.requires.power in
    omega arith

pub uniform_in-requires : goal.uniform_in-requires
uniform_in-requires c =
    let v = c.block_at-y.ensures in
    (begins_in c.args.a.now.level c.args.p c.args.side c.block_at-y.result c.requires.most v.valid v.size v.held c.requires.in_x c.requires.in_y).block

pub agrees-requires : goal.agrees-requires
agrees-requires c met =
    let v = c.block_at-y.ensures in
    let b = c.block_at-y.result in
    let h = begins_in c.args.a.now.level c.args.p c.args.side b c.requires.most v.valid v.size v.held c.requires.in_x c.requires.in_y in
    right_block c.args.a.now.level c.args.p c.args.side b.x b.y h c.requires.in_x c.requires.in_y (ltb-true b.x c.args.p.x met)

pub agrees-requires-then-agrees : goal.agrees-requires-then-agrees
agrees-requires-then-agrees c met =
    let v = c.block_at-y.ensures in
    let b = c.block_at-y.result in
    let h = begins_in c.args.a.now.level c.args.p c.args.side b c.requires.most v.valid v.size v.held c.requires.in_x c.requires.in_y in
    lower_block c.args.a.now.level c.args.p c.args.side b.x b.y h c.requires.in_x c.requires.in_y (ltb-true b.y c.args.p.y met)

pub agrees-requires-then-agrees-2 : goal.agrees-requires-then-agrees-2
agrees-requires-then-agrees-2 c met =
    let v = c.block_at-y.ensures in
    let b = c.block_at-y.result in
    let h = begins_in c.args.a.now.level c.args.p c.args.side b c.requires.most v.valid v.size v.held c.requires.in_x c.requires.in_y in
    elim c.if-is_across.branch [
      | then-is_across w ↦
          let across = w.if-is_across.true in
          let down = ltb-true b.y c.args.p.y (sym w.agrees-is ∙ met) in
          last_block c.args.a.now.level c.args.p c.args.side b.x b.y h c.requires.in_x c.requires.in_y across down
      | else-is_across w ↦ let none = sym w.agrees-is ∙ met in absurd cc
    ]
