use Rattle.std.proofs.Common.{◌^◌, length, sym, ◌∙◌, ap, subst, arith}
use Rattle.quilt_types.specs.Plane.{whole, IsBlock}
use Rattle.quilt_loc.proofs.Quartered.{IsBlock-whole}
use Rattle.quilt_loc.proofs.Intervals.{origin_code}
use Rattle.quilt_blocks.specs.Painting.{Painted}
use Rattle.quilt_algebra_tests.proofs.tests.blocks.whole.Goals as goal

pub push-requires-clause-valid : goal.push-requires-clause-valid
push-requires-clause-valid c = subst (λ (m : Painted). IsBlock m.level (whole 1)) (sym c.new-maker.ensures) (IsBlock-whole 1)

pub push-requires-clause-next : goal.push-requires-clause-next
push-requires-clause-next c = origin_code ∙ sym (ap (λ (m : Painted). length m.colours) c.new-maker.ensures)

pub finish-requires : goal.finish-requires
finish-requires c =
    let z = origin_code in
    let e = c.in_ok-push.ensures.end in
    let l = ap (λ (m : Painted). 4 ^ m.level) (c.in_ok-push.ensures.ok) in
    let n = ap (λ (m : Painted). 4 ^ m.level) c.new-maker.ensures in
    omega arith
