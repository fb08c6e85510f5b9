use Rattle.std.proofs.Common.{◌≡◌, ℕ, ◌+◌, ◌*◌, ◌/◌, cond, refl, sym, ◌∙◌, ap, subst, arith}
use Rattle.std.proofs.lemmas.Result.{on_ok_weaker}
use Rattle.quilt_types.specs.declared.plane.Block.{Block}
use Rattle.quilt_types.specs.Plane.{side}
use Rattle.quilt_loc.specs.Codes.{code_from, code_to}
use Rattle.quilt_loc.proofs.Blocks.{IsBlock-up}
use Rattle.quilt_loc.proofs.Quartered.{Within-whole}
use Rattle.quilt_loc.proofs.Intervals.{half_codes}
use Rattle.quilt_blocks.specs.Adding.{AddsColours}
use Rattle.quilt_blocks.proofs.Adding.{Adds-then, Adds-push, part_at}
use Rattle.quilt_poly.specs.Bits.{strips, bit_in, colour_in}
use Rattle.quilt_poly.proofs.Fillings.{colour_in-is}
use Rattle.quilt_poly.proofs.fill.+fill.Goals as goal

pub one_bit-requires-clause-room : goal.one_bit-requires-clause-room
one_bit-requires-clause-room t c = c.requires.room ∙ sym (ap (λ (s : ℕ). strips s * s) c.side_at.ensures.value)

pub one_bit-requires-clause-valid : goal.one_bit-requires-clause-valid
one_bit-requires-clause-valid t c = IsBlock-up c.args.level 12 c.args.square c.requires.most c.requires.valid

pub one_bit-requires-clause-in_x : goal.one_bit-requires-clause-in_x
one_bit-requires-clause-in_x t c =
    let w = (Within-whole c.args.level c.args.square c.requires.valid).right in
    let s = c.side_at.ensures.value in
    omega arith

pub one_bit-requires-clause-in_y : goal.one_bit-requires-clause-in_y
one_bit-requires-clause-in_y t c =
    let w = (Within-whole c.args.level c.args.square c.requires.valid).bottom in
    let s = c.side_at.ensures.value in
    omega arith

pub returns-in-Some : goal.returns-in-Some
returns-in-Some t c =
    let n = c.args.level in
    let m = c.args.maker.now in
    let f = colour_in c.args.words.now (side n) c.args.c.0 in
    let b = c.args.square in
    on_ok_weaker c.push.result
    (λ is. Adds-push n f m c.push.new.self b c.colour_of.result.0 c.requires.most c.requires.valid c.requires.next
    (λ p h. colour_in-is c.args.words.now (side n) c.args.c.0 p c.in-Some.inside
    (subst (λ (s : ℕ). bit_in c.args.words.now s p.y p.x ≡ cond {A = ℕ} c.in-Some.inside 1 0) c.side_at.ensures.value (c.in-Some.ensures.some p h)) ∙ sym c.colour_of.ensures) is)
    c.push.ensures.ok

pub quarters-quarter-items-requires-clause-valid : goal.quarters-quarter-items-requires-clause-valid
quarters-quarter-items-requires-clause-valid t c = IsBlock-up c.args.level 12 c.args.square c.requires.most c.requires.valid

pub fill-requires : goal.fill-requires
fill-requires t c =
    let k = c.args.level in
    let d : Block = record { x = 0; y = 0; side = 0 } in
    let q = part_at k c.args.square c.quarters-quarter-items.result c.loop-quarter.quarter-index d c.requires.most c.requires.valid
    (c.in_default.ensures.none refl) c.quarters-quarter-items.ensures.value c.loop-quarter-test.true in
    let smaller = q.smaller in
    (omega arith, (c.requires.most, (c.loop-quarter.invariant.level ∙ c.requires.level, (c.requires.room, (q.block, q.from ∙ sym c.loop-quarter.invariant.long)))))

pub loop-quarter-preserved : goal.loop-quarter-preserved
loop-quarter-preserved t c =
    let k = c.args.level in
    let f = colour_in c.args.words.now (side k) c.args.c.0 in
    let b = c.args.square in
    let i = c.loop-quarter.quarter-index in
    let s = b.side / 2 * (b.side / 2) in
    let d : Block = record { x = 0; y = 0; side = 0 } in
    let q = part_at k b c.quarters-quarter-items.result i d c.requires.most c.requires.valid
    (c.in_default.ensures.none refl) c.quarters-quarter-items.ensures.value c.loop-quarter-test.true in
    let next = c.requires.next in
    let m = c.loop-quarter.maker in
    let new = c.fill.new.maker in
    Adds-then k f (code_from b + i * s) (code_from b + (i + 1) * s) c.args.maker.now m new (omega arith) c.loop-quarter.invariant
    (subst (λ (e : ℕ). AddsColours k f e m new) q.to c.in_ok-fill.ensures)

pub returns : goal.returns
returns t c =
    let k = c.args.level in
    let b = c.args.square in
    let wide = c.in_default.ensures.none refl in
    let four : c.loop-quarter.quarter-index ≡ 4 = omega arith in
    let codes = half_codes k b c.requires.valid c.requires.most wide in
    let all = codes.all in
    let end : code_from b + c.loop-quarter.quarter-index * (b.side / 2 * (b.side / 2)) ≡ code_to b =
    ap (λ i. code_from b + i * (b.side / 2 * (b.side / 2))) four ∙ sym all in
    subst (λ (e : ℕ). AddsColours k (colour_in c.args.words.now (side k) c.args.c.0) e c.args.maker.now c.loop-quarter.maker) end c.loop-quarter.invariant
