use Rattle.std.proofs.Common.{◌≡◌, ◌*◌, ◌≤◌, take, sum_by, ◌∙◌, ap, ap₂, arith}
use Rattle.std.proofs.Math.Nat.{mul-le-mul}
use Rattle.std.proofs.lemmas.List.{take_all}
use Rattle.quilt_loc.proofs.Blocks.{side_most}
use Rattle.quilt_loc.proofs.Quartered.{side_le}
use Rattle.quilt_blocks.specs.Cutting.{leaves_by_code}
use Rattle.quilt_measure.proofs.Parts.{part, area_is, some_area_small}
use Rattle.quilt_measure.proofs.counts.area.Goals as goal

pub overflow_add-sum : goal.overflow_add-sum
overflow_add-sum c =
    let n = c.args.a.now.level in
    let r = c.len-i-end.ensures.raster in
    let sum = c.loop-i.invariant in
    let small = some_area_small n c.args.a.now.grid c.args.c.0 c.loop-i.i r.most r.colours.size in
    let m = side_most n r.most in
    let s = side_le n c.leaf-leaf.result.block c.leaf-leaf.ensures.block in
    let low : c.leaf-leaf.result.block.side ≤ 4096 = omega arith in
    let square : c.leaf-leaf.result.block.side * c.leaf-leaf.result.block.side ≤ 4096 * 4096 = mul-le-mul low low in
    let same = ap₂ (λ a b. a * b) c.from.ensures c.from-then-eq.ensures in
    omega arith

pub returns : goal.returns
returns c =
    let n = c.args.a.now.level in
    let g = c.args.a.now.grid in
    let r = c.len-i-end.ensures.raster in
    let long = c.len-i-end.ensures.value in
    let end = c.loop-i-test.false in
    let all : take c.loop-i.i (leaves_by_code n g) ≡ leaves_by_code n g = take_all c.loop-i.i (leaves_by_code n g) (omega arith) in
    c.loop-i.invariant ∙ ap (sum_by (part c.args.c.0)) all ∙ area_is n g c.args.c.0 r.most r.colours.size
