use Rattle.std.proofs.Common.{ℕ, ◌≡◌, ◌+◌, ◌-◌, ◌*◌, ap₂, ◌∙◌, arith}
use Rattle.quilt_poly.specs.Edges.{edge_of}
use Rattle.quilt_poly.proofs.Crossed.{crossing_from}
use Rattle.quilt_poly.proofs.columns.crossing_at.Goals as goal

pub returns : goal.returns
returns c =
    let e = c.args.e in
    let top : c.from-top.result ≡ e.top.y = c.from-top.ensures in
    let bottom : c.from-bottom.result ≡ e.bottom.y = c.from-bottom.ensures in
    let up : 2 * (c.from-bottom.result - c.args.y) - 1 ≡ 2 * (e.bottom.y - c.args.y) - 1 = omega arith in
    let down : 2 * (c.args.y - c.from-top.result) + 1 ≡ 2 * (c.args.y - e.top.y) + 1 = omega arith in
    let sum = c.columns_of.ensures.value in
    let half = c.half_of.ensures.value in
    crossing_from (edge_of e) c.args.y c.columns_of.result.column c.columns_of.result.rest c.parts_of.result
    c.times-from_top.result c.times-from_bottom.result c.requires.below c.requires.above c.parts_of.ensures.value
    (c.times-from_top.ensures.value ∙ ap₂ (λ (a b : ℕ). a * b) c.from.ensures up)
    (c.times-from_bottom.ensures.value ∙ ap₂ (λ (a b : ℕ). a * b) c.from-2.ensures down) (omega arith) c.columns_of.ensures.small
