use Rattle.std.proofs.Common.{◌≡◌, take, sum_by, ◌∙◌, ap, arith}
use Rattle.std.proofs.lemmas.List.{take_all}
use Rattle.quilt_blocks.specs.Cutting.{leaves_by_code}
use Rattle.quilt_measure.proofs.Rounds.{round, perimeter_is, some_perimeter_small}
use Rattle.quilt_measure.proofs.boundary.perimeter.Goals as goal

pub overflow_add-sum : goal.overflow_add-sum
overflow_add-sum c =
    let r = c.len-i-end.ensures.raster in
    let sum = c.loop-i.invariant in
    let small = some_perimeter_small c.args.a.now.level c.args.a.now.grid c.args.c.0 c.loop-i.i r.most in
    let same = c.from-sum.ensures in
    omega arith

pub returns : goal.returns
returns c =
    let n = c.args.a.now.level in
    let g = c.args.a.now.grid in
    let r = c.len-i-end.ensures.raster in
    let long = c.len-i-end.ensures.value in
    let end = c.loop-i-test.false in
    let all : take c.loop-i.i (leaves_by_code n g) ≡ leaves_by_code n g = take_all c.loop-i.i (leaves_by_code n g) (omega arith) in
    c.loop-i.invariant ∙ ap (sum_by (round n g c.args.c.0)) all ∙ perimeter_is n g c.args.c.0 r.most
