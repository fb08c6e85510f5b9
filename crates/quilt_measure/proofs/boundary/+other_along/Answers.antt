use Rattle.std.proofs.Common.{◌≡◌, ℕ, ◌+◌, ◌<◌, false, ⊎_elim, refl, sym, ◌∙◌, ap, ap₂, subst, sum_by, arith}
use Rattle.std.proofs.lemmas.Bool.{cases_lt, both_ways}
use Rattle.quilt_types.specs.declared.plane.Block.{Block}
use Rattle.quilt_types.specs.Plane.{below, IsBlock}
use Rattle.quilt_types.specs.Layers.{Grid}
use Rattle.quilt_types.specs.Quadtrees.{is_uniform}
use Rattle.quilt_loc.proofs.Blocks.{IsBlock-up, side_most}
use Rattle.quilt_loc.proofs.Nesting.{side_pos}
use Rattle.quilt_loc.proofs.Quartered.{side_le}
use Rattle.quilt_blocks.proofs.Leaves.{uniform_pixel}
use Rattle.quilt_measure.specs.Edges.{place, differs, halves_of}
use Rattle.quilt_measure.proofs.Sides.{first_half, second_half, along_halves, along_one, other_all, other_none}
use Rattle.quilt_measure.proofs.boundary.+other_along.Goals as goal

-- a block of two colours is no pixel
is_wide : (n : ℕ) (g : Grid) (b : Block) → IsBlock n b → is_uniform n g b ≡ false → 1 < b.side
is_wide n g b h mixed =
    let pos = side_pos n b h in
    ⊎_elim (λ l. l) (λ z. absurd (both_ways (is_uniform n g b) mixed (uniform_pixel n g b h (omega arith)))) (cases_lt 1 b.side)

pub returns-then-eq-clause-value : goal.returns-then-eq-clause-value
returns-then-eq-clause-value t c =
    sym (along_one c.args.on c.args.a.now.level c.args.a.now.grid c.args.c.0 c.in-Some.d.0 c.args.b c.requires.valid c.in-Some.ensures.colour
    ∙ other_none c.args.b.side c.in-Some.d.0 c.args.c.0 (sym c.if-eq.ensures))

pub returns-else-eq-clause-value : goal.returns-else-eq-clause-value
returns-else-eq-clause-value t c =
    sym (along_one c.args.on c.args.a.now.level c.args.a.now.grid c.args.c.0 c.in-Some.d.0 c.args.b c.requires.valid c.in-Some.ensures.colour
    ∙ other_all c.args.b.side c.in-Some.d.0 c.args.c.0 (sym c.if-eq.ensures))

pub halves-requires-clause-valid : goal.halves-requires-clause-valid
halves-requires-clause-valid t c = IsBlock-up c.args.a.now.level 12 c.args.b c.requires.most c.requires.valid

pub halves-requires-clause-wide : goal.halves-requires-clause-wide
halves-requires-clause-wide t c = is_wide c.args.a.now.level c.args.a.now.grid c.args.b c.requires.valid (c.in_default.ensures.none.0 refl)

pub other_along-requires : goal.other_along-requires
other_along-requires t c =
    let n = c.args.a.now.level in
    let b = c.args.b in
    let q = first_half c.args.on n b c.requires.valid (is_wide n c.args.a.now.grid b c.requires.valid (c.in_default.ensures.none.0 refl)) in
    let half = q.half in
    let pos = side_pos n (halves_of c.args.on b).0 q.block in
    let same = ap (λ (r : Block × Block). r.0.side) c.halves.ensures in
    let falls = c.decreases in
    let lt : c.halves.result.0.side < t = omega arith in
    (lt, (c.requires.most, subst (λ (r : Block × Block). IsBlock n r.0) (sym c.halves.ensures) q.block))

pub other_along-requires-2 : goal.other_along-requires-2
other_along-requires-2 t c =
    let n = c.args.a.now.level in
    let b = c.args.b in
    let q = second_half c.args.on n b c.requires.valid (is_wide n c.args.a.now.grid b c.requires.valid (c.in_default.ensures.none.0 refl)) in
    let half = q.half in
    let pos = side_pos n (halves_of c.args.on b).1 q.block in
    let same = ap (λ (r : Block × Block). r.1.side) c.halves.ensures in
    let falls = c.decreases in
    let lt : c.halves.result.1.side < t = omega arith in
    (lt, (c.requires.most, subst (λ (r : Block × Block). IsBlock n r.1) (sym c.halves.ensures) q.block))

-- both halves together have at most as many pixels along the side as the block
pub overflow_add-result : goal.overflow_add-result
overflow_add-result t c =
    let n = c.args.a.now.level in
    let b = c.args.b in
    let wide = is_wide n c.args.a.now.grid b c.requires.valid (c.in_default.ensures.none.0 refl) in
    let first = (first_half c.args.on n b c.requires.valid wide).half in
    let second = (second_half c.args.on n b c.requires.valid wide).half in
    let i = ap (λ (r : Block × Block). r.0.side) c.halves.ensures in
    let j = ap (λ (r : Block × Block). r.1.side) c.halves.ensures in
    let k = c.other_along.ensures.most in
    let l = c.other_along-2.ensures.most in
    let most = side_most n c.requires.most in
    let inside = side_le n b c.requires.valid in
    omega arith

pub returns-clause-value : goal.returns-clause-value
returns-clause-value t c =
    let n = c.args.a.now.level in
    let g = c.args.a.now.grid in
    let b = c.args.b in
    let on = c.args.on in
    let other = differs n g c.args.c.0 in
    ap₂ (λ i j. i + j) c.other_along.ensures.value c.other_along-2.ensures.value
    ∙ ap (λ (r : Block × Block). sum_by (λ t. other (place on r.0 t)) (below r.0.side) + sum_by (λ t. other (place on r.1 t)) (below r.1.side)) c.halves.ensures
    ∙ sym (along_halves other on n b c.requires.valid (is_wide n g b c.requires.valid (c.in_default.ensures.none.0 refl)))
