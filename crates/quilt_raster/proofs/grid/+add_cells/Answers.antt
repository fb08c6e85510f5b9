use Rattle.std.proofs.Common.{◌≡◌, ℕ, ◌+◌, ◌*◌, ◌/◌, ◌≤◌, get_or, refl, sym, ◌∙◌, ap, subst, arith}
use Rattle.std.proofs.lemmas.Result.{on_ok_weaker}
use Rattle.quilt_types.specs.declared.plane.Block.{Block}
use Rattle.quilt_types.specs.Plane.{IsBlock}
use Rattle.quilt_loc.specs.Codes.{code_from, code_to}
use Rattle.quilt_loc.proofs.Blocks.{IsBlock-up}
use Rattle.quilt_loc.proofs.Intervals.{half_codes}
use Rattle.quilt_loc.proofs.Nesting.{side_pos, Within-trans}
use Rattle.quilt_blocks.specs.Adding.{AddsColours}
use Rattle.quilt_blocks.proofs.Adding.{Adds-then, Adds-push, part_at}
use Rattle.quilt_raster.specs.Painting.{in_cells}
use Rattle.quilt_raster.proofs.grid.+add_cells.Goals as goal

pub one_colour-requires-clause-some : goal.one_colour-requires-clause-some
one_colour-requires-clause-some t c = side_pos c.args.maker.now.level c.args.b c.requires.valid

pub returns-in-Some : goal.returns-in-Some
returns-in-Some t c =
    on_ok_weaker c.push.result
    (λ is. Adds-push c.args.maker.now.level (in_cells c.args.cells.now c.args.tile) c.args.maker.now c.push.new.self c.args.b c.in-Some.colour.0
    c.requires.most c.requires.valid c.requires.next c.in-Some.ensures.some is) c.push.ensures.ok

pub quarters-q-items-requires-clause-valid : goal.quarters-q-items-requires-clause-valid
quarters-q-items-requires-clause-valid t c = IsBlock-up c.args.maker.now.level 12 c.args.b c.requires.most c.requires.valid

pub add_cells-requires : goal.add_cells-requires
add_cells-requires t c =
    let k = c.args.maker.now.level in
    let d : Block = record { x = 0; y = 0; side = 0 } in
    let b = get_or c.quarters-q-items.result c.loop-q.q-index d in
    let q = part_at k c.args.b c.quarters-q-items.result c.loop-q.q-index d c.requires.most c.requires.valid
    (c.in_default.ensures.none refl) c.quarters-q-items.ensures.value c.loop-q-test.true in
    let smaller = q.smaller in
    let level = sym c.loop-q.invariant.level in (
      omega arith,
      (
        subst (λ (j : ℕ). j ≤ 12) level c.requires.most,
        (
          subst (λ (j : ℕ). IsBlock j b) level q.block,
          (Within-trans b c.args.b c.args.tile q.within c.requires.within, (c.requires.room, q.from ∙ sym c.loop-q.invariant.long)),
        ),
      ),
    )

pub loop-q-preserved : goal.loop-q-preserved
loop-q-preserved t c =
    let k = c.args.maker.now.level in
    let f = in_cells c.args.cells.now c.args.tile in
    let b = c.args.b in
    let i = c.loop-q.q-index in
    let s = b.side / 2 * (b.side / 2) in
    let d : Block = record { x = 0; y = 0; side = 0 } in
    let q = part_at k b c.quarters-q-items.result i d c.requires.most c.requires.valid
    (c.in_default.ensures.none refl) c.quarters-q-items.ensures.value c.loop-q-test.true in
    let next = c.requires.next in
    let m = c.loop-q.maker in
    let new = c.add_cells.new.maker in
    let end = code_to (get_or c.quarters-q-items.result i d) in
    Adds-then k f (code_from b + i * s) (code_from b + (i + 1) * s) c.args.maker.now m new (omega arith) c.loop-q.invariant
    (subst (λ (e : ℕ). AddsColours k f e m new) q.to (subst (λ (j : ℕ). AddsColours j f end m new) c.loop-q.invariant.level c.in_ok-add_cells.ensures))

pub returns : goal.returns
returns t c =
    let k = c.args.maker.now.level in
    let b = c.args.b in
    let wide = c.in_default.ensures.none refl in
    let four : c.loop-q.q-index ≡ 4 = omega arith in
    let codes = half_codes k b c.requires.valid c.requires.most wide in
    let all = codes.all in
    let end : code_from b + c.loop-q.q-index * (b.side / 2 * (b.side / 2)) ≡ code_to b =
    ap (λ i. code_from b + i * (b.side / 2 * (b.side / 2))) four ∙ sym all in
    subst (λ (e : ℕ). AddsColours k (in_cells c.args.cells.now c.args.tile) e c.args.maker.now c.loop-q.maker) end c.loop-q.invariant
