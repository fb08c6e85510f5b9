use Rattle.std.proofs.Common.{rules, ◌≡◌, ◌/◌, ◌%◌, ◌^◌, ◌∙◌, get_or, eqb, not, w8, ap, arith}
use Rattle.std.specs.Int.{bit_not}
use Rattle.quilt_edition.proofs.Tallying.{not_bit}
use Rattle.quilt_edition.proofs.free.complement_of.Goals as goal

pub returns : goal.returns
returns c = λ i lt.
    let at : get_or c.loop-byte.byte-items (i / 8) 0 ≡ bit_not w8 (get_or c.args.bits.now (i / 8) 0) = c.loop-byte.invariant.done (i / 8) (omega (arith, lt)) in
    ap (λ x. eqb (x / 2 ^ (i % 8) % 2) 1) at ∙ not_bit (get_or c.args.bits.now (i / 8) 0) (i % 8) (c.loop-byte.invariant.small (i / 8) (omega (arith, lt))) (omega arith)
