use Rattle.std.proofs.Common.{◌≡◌, ℕ, ◌+◌, ◌*◌, ◌/◌, ◌≤◌, get_or, refl, sym, ◌∙◌, ap, subst, arith}
use Rattle.std.proofs.lemmas.Result.{on_ok_weaker}
use Rattle.quilt_types.specs.declared.plane.Block.{Block}
use Rattle.quilt_types.specs.Plane.{side, IsBlock}
use Rattle.quilt_loc.specs.Codes.{code_from, code_to}
use Rattle.quilt_loc.proofs.Blocks.{IsBlock-up}
use Rattle.quilt_loc.proofs.Quartered.{Within-whole}
use Rattle.quilt_loc.proofs.Intervals.{half_codes}
use Rattle.quilt_blocks.specs.Adding.{AddsColours}
use Rattle.quilt_blocks.proofs.Adding.{Adds-then, Adds-push, part_at}
use Rattle.quilt_raster.specs.Bytes.{cell_colours, from_corner}
use Rattle.quilt_raster.proofs.Points.{held_from}
use Rattle.quilt_raster.proofs.leaves.+add_square.Goals as goal

pub one_colour-requires-clause-in_x : goal.one_colour-requires-clause-in_x
one_colour-requires-clause-in_x t c =
    let w = (Within-whole c.args.maker.now.level c.args.b c.requires.valid).right in
    let x = c.requires.in_x in
    omega arith

pub one_colour-requires-clause-in_y : goal.one_colour-requires-clause-in_y
one_colour-requires-clause-in_y t c =
    let w = (Within-whole c.args.maker.now.level c.args.b c.requires.valid).bottom in
    let y = c.requires.in_y in
    omega arith

pub returns-in-Some : goal.returns-in-Some
returns-in-Some t c =
    let k = c.args.maker.now.level in
    let low = c.requires.low in
    let most = c.requires.most in
    on_ok_weaker c.push.result
    (λ is. Adds-push k (from_corner c.args.level (cell_colours c.args.colours.now) c.args.corner) c.args.maker.now c.push.new.self c.args.b
    c.in-Some.colour.0 (omega arith) c.requires.valid c.requires.next
    (λ p h. held_from c.args.level (cell_colours c.args.colours.now) c.args.corner c.args.b p c.in-Some.colour.0 h c.in-Some.ensures.some) is)
    c.push.ensures.ok

pub quarters-q-items-requires-clause-valid : goal.quarters-q-items-requires-clause-valid
quarters-q-items-requires-clause-valid t c =
    let low = c.requires.low in
    let most = c.requires.most in
    IsBlock-up c.args.maker.now.level 12 c.args.b (omega arith) c.requires.valid

pub add_square-requires : goal.add_square-requires
add_square-requires t c =
    let k = c.args.maker.now.level in
    let low = c.requires.low in
    let most = c.requires.most in
    let d : Block = record { x = 0; y = 0; side = 0 } in
    let q = part_at k c.args.b c.quarters-q-items.result c.loop-q.q-index d (omega arith) c.requires.valid
    (c.in_default.ensures.none refl) c.quarters-q-items.ensures.value c.loop-q-test.true in
    let smaller = q.smaller in
    let level = sym c.loop-q.invariant.level in (
      omega arith,
      (
        most,
        (
          c.requires.all,
          (
            subst (λ (j : ℕ). j ≤ c.args.level) level low,
            (
              subst (λ (j : ℕ). c.args.corner.x + side j ≤ side c.args.level) level c.requires.in_x,
              (
                subst (λ (j : ℕ). c.args.corner.y + side j ≤ side c.args.level) level c.requires.in_y,
                (subst (λ (j : ℕ). IsBlock j (get_or c.quarters-q-items.result c.loop-q.q-index d)) level q.block, q.from ∙ sym c.loop-q.invariant.long),
              ),
            ),
          ),
        ),
      ),
    )

pub loop-q-preserved : goal.loop-q-preserved
loop-q-preserved t c =
    let k = c.args.maker.now.level in
    let f = from_corner c.args.level (cell_colours c.args.colours.now) c.args.corner in
    let b = c.args.b in
    let i = c.loop-q.q-index in
    let s = b.side / 2 * (b.side / 2) in
    let low = c.requires.low in
    let most = c.requires.most in
    let d : Block = record { x = 0; y = 0; side = 0 } in
    let q = part_at k b c.quarters-q-items.result i d (omega arith) c.requires.valid
    (c.in_default.ensures.none refl) c.quarters-q-items.ensures.value c.loop-q-test.true in
    let next = c.requires.next in
    let m = c.loop-q.maker in
    let new = c.add_square.new.maker in
    let end = code_to (get_or c.quarters-q-items.result i d) in
    Adds-then k f (code_from b + i * s) (code_from b + (i + 1) * s) c.args.maker.now m new (omega arith) c.loop-q.invariant
    (subst (λ (e : ℕ). AddsColours k f e m new) q.to (subst (λ (j : ℕ). AddsColours j f end m new) c.loop-q.invariant.level c.in_ok-add_square.ensures))

pub returns : goal.returns
returns t c =
    let k = c.args.maker.now.level in
    let b = c.args.b in
    let low = c.requires.low in
    let most = c.requires.most in
    let wide = c.in_default.ensures.none refl in
    let four : c.loop-q.q-index ≡ 4 = omega arith in
    let codes = half_codes k b c.requires.valid (omega arith) wide in
    let all = codes.all in
    let end : code_from b + c.loop-q.q-index * (b.side / 2 * (b.side / 2)) ≡ code_to b =
    ap (λ i. code_from b + i * (b.side / 2 * (b.side / 2))) four ∙ sym all in
    subst (λ (e : ℕ). AddsColours k (from_corner c.args.level (cell_colours c.args.colours.now) c.args.corner) e c.args.maker.now c.loop-q.maker)
    end c.loop-q.invariant
