use Rattle.std.proofs.Common.{◌≡◌, ℕ, ◌*◌, cond, sym, ◌∙◌, ap, subst, arith}
use Rattle.quilt_loc.proofs.Blocks.{IsBlock-up}
use Rattle.quilt_loc.proofs.Quartered.{Within-whole}
use Rattle.quilt_poly.specs.Bits.{strips, bit_in}
use Rattle.quilt_poly.proofs.Fillings.{bits_colour}
use Rattle.quilt_poly.proofs.fill.InsidePixels.one_colour.Goals as goal

pub one_bit-requires-clause-room : goal.one_bit-requires-clause-room
one_bit-requires-clause-room c = c.requires.whole ∙ sym (ap (λ (s : ℕ). strips s * s) c.side_at.ensures.value)

pub one_bit-requires-clause-valid : goal.one_bit-requires-clause-valid
one_bit-requires-clause-valid c = IsBlock-up c.args.level 12 c.args.square c.requires.high c.requires.valid

pub one_bit-requires-clause-in_x : goal.one_bit-requires-clause-in_x
one_bit-requires-clause-in_x c =
    let w = (Within-whole c.args.level c.args.square c.requires.valid).right in
    let s = c.side_at.ensures.value in
    omega arith

pub one_bit-requires-clause-in_y : goal.one_bit-requires-clause-in_y
one_bit-requires-clause-in_y c =
    let w = (Within-whole c.args.level c.args.square c.requires.valid).bottom in
    let s = c.side_at.ensures.value in
    omega arith

pub returns-clause-some : goal.returns-clause-some
returns-clause-some c =
    let words = c.args.self.now.words.now in
    let colour = c.args.self.now.colour.0 in
    bits_colour c.args.level words colour c.args.square c.in_ok-inside.inside c.colour_of.result.0 c.requires.valid
    (λ p h. subst (λ (s : ℕ). bit_in words s p.y p.x ≡ cond {A = ℕ} c.in_ok-inside.inside 1 0) c.side_at.ensures.value (c.in_ok-inside.ensures.some p h))
    c.colour_of.ensures
