use Rattle.std.proofs.Common.{◌+◌, ◌∙◌, ap₂, arith}
use Rattle.quilt_loc.proofs.Blocks.{side_most}
use Rattle.quilt_loc.proofs.Quartered.{side_le}
use Rattle.quilt_measure.proofs.Rounds.{edges_sum}
use Rattle.quilt_measure.proofs.boundary.edges_around.Goals as goal

pub overflow_add-result : goal.overflow_add-result
overflow_add-result c =
    let m = side_most c.args.a.now.level c.requires.small in
    let s = side_le c.args.a.now.level c.args.b c.requires.valid in
    let l = c.edges_on.ensures.most in
    let r = c.edges_on-2.ensures.most in
    omega arith

pub overflow_add-result-2 : goal.overflow_add-result-2
overflow_add-result-2 c =
    let m = side_most c.args.a.now.level c.requires.small in
    let s = side_le c.args.a.now.level c.args.b c.requires.valid in
    let l = c.edges_on.ensures.most in
    let r = c.edges_on-2.ensures.most in
    let t = c.edges_on-3.ensures.most in
    omega arith

pub overflow_add-result-3 : goal.overflow_add-result-3
overflow_add-result-3 c =
    let m = side_most c.args.a.now.level c.requires.small in
    let s = side_le c.args.a.now.level c.args.b c.requires.valid in
    let l = c.edges_on.ensures.most in
    let r = c.edges_on-2.ensures.most in
    let t = c.edges_on-3.ensures.most in
    let d = c.edges_on-4.ensures.most in
    omega arith

pub returns-clause-value : goal.returns-clause-value
returns-clause-value c =
    ap₂ (λ i j. i + j) (ap₂ (λ i j. i + j) (ap₂ (λ i j. i + j) c.edges_on.ensures.value c.edges_on-2.ensures.value) c.edges_on-3.ensures.value)
    c.edges_on-4.ensures.value
    ∙ edges_sum c.args.a.now.level c.args.a.now.grid c.args.c.0 c.args.b c.requires.valid c.requires.colour
