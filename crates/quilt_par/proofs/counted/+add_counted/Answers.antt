use Rattle.std.proofs.Common.{◌≡◌, ℕ, ◌+◌, ◌*◌, ◌/◌, ◌≤◌, get_or, refl, sym, ◌∙◌, ap, subst, arith, Option, is_some, IfSome}
use Rattle.quilt_types.specs.declared.plane.Block.{Block}
use Rattle.quilt_types.specs.Plane.{side, IsBlock}
use Rattle.quilt_tally.specs.declared.tally.Tally.{Tally}
use Rattle.quilt_tally.specs.Tallies.{IsTally}
use Rattle.quilt_loc.specs.Codes.{code_from, code_to}
use Rattle.quilt_loc.proofs.Blocks.{IsBlock-up}
use Rattle.quilt_loc.proofs.Quartered.{Within-whole}
use Rattle.quilt_loc.proofs.Intervals.{half_codes}
use Rattle.quilt_blocks.specs.Adding.{AddsColours}
use Rattle.quilt_blocks.proofs.Adding.{Adds-then, Adds-push, part_at}
use Rattle.quilt_tally.proofs.Quarters.{tallied_all}
use Rattle.quilt_raster.specs.Bytes.{cell_colours, from_corner}
use Rattle.quilt_par.specs.Parts.{at_corner}
use Rattle.quilt_par.proofs.Corners.{any_some, past_corner, quarter_block, quarter_more, quarter_past}
use Rattle.quilt_raster.proofs.Points.{held_from}
use Rattle.quilt_par.proofs.counted.+add_counted.Goals as goal

pub one_colour-requires-clause-in_x : goal.one_colour-requires-clause-in_x
one_colour-requires-clause-in_x t c =
    past_corner c.args.corner.x c.args.b.x c.args.b.side (side c.args.maker.now.level) (side c.args.level)
    (Within-whole c.args.maker.now.level c.args.b c.requires.valid).right c.requires.in_x

pub one_colour-requires-clause-in_y : goal.one_colour-requires-clause-in_y
one_colour-requires-clause-in_y t c =
    past_corner c.args.corner.y c.args.b.y c.args.b.side (side c.args.maker.now.level) (side c.args.level)
    (Within-whole c.args.maker.now.level c.args.b c.requires.valid).bottom c.requires.in_y

pub returns-in-Some-clause-added : goal.returns-in-Some-clause-added
returns-in-Some-clause-added t c =
    let k = c.args.maker.now.level in
    let low = c.requires.low in
    let high = c.requires.high in
    Adds-push k (from_corner c.args.level (cell_colours c.args.colours.now) c.args.corner) c.args.maker.now c.push.new.self c.args.b
    c.in-Some.colour.0 (omega arith) c.requires.valid c.requires.next
    (λ p h. held_from c.args.level (cell_colours c.args.colours.now) c.args.corner c.args.b p c.in-Some.colour.0 h c.in-Some.ensures.some)
    c.in_ok-push.ensures.ok

pub quarters-four-requires-clause-valid : goal.quarters-four-requires-clause-valid
quarters-four-requires-clause-valid t c =
    let low = c.requires.low in
    let high = c.requires.high in
    IsBlock-up c.args.maker.now.level 12 c.args.b (omega arith) c.requires.valid

pub add_counted-requires : goal.add_counted-requires
add_counted-requires t c =
    let k = c.args.maker.now.level in
    let low = c.requires.low in
    let high = c.requires.high in
    let d : Block = record { x = 0; y = 0; side = 0 } in
    let q = part_at k c.args.b c.quarters-four.result c.loop-place.place d (omega arith) c.requires.valid
    (c.in_default.ensures.none refl) c.quarters-four.ensures.value c.loop-place-test.true in
    let smaller = q.smaller in
    let level = sym c.loop-place.invariant.adds.level in (
      omega arith,
      (
        high,
        (
          c.requires.all,
          (
            subst (λ (j : ℕ). j ≤ c.args.level) level low,
            (
              subst (λ (j : ℕ). c.args.corner.x + side j ≤ side c.args.level) level c.requires.in_x,
              (
                subst (λ (j : ℕ). c.args.corner.y + side j ≤ side c.args.level) level c.requires.in_y,
                (subst (λ (j : ℕ). IsBlock j (get_or c.quarters-four.result c.loop-place.place d)) level q.block, q.from ∙ sym c.loop-place.invariant.adds.long),
              ),
            ),
          ),
        ),
      ),
    )

pub returns-in_default-2-clause-past : goal.returns-in_default-2-clause-past
returns-in_default-2-clause-past t c = λ hb none.
    let d : Block = record { x = 0; y = 0; side = 0 } in
    let now = c.loop-place.invariant.joining hb in
    let lt = c.loop-place-test.true in
    let are = c.quarters-four.ensures.value in
    quarter_past c.args.corner c.args.b now c.quarters-four.result d are lt (c.in_ok-t.ensures.past (quarter_block c.args.corner c.args.b now c.quarters-four.result d are lt)
    (ap is_some c.in_default-2.is))

pub loop-place-preserved : goal.loop-place-preserved
loop-place-preserved t c =
    let k = c.args.maker.now.level in
    let f = from_corner c.args.level (cell_colours c.args.colours.now) c.args.corner in
    let b = c.args.b in
    let i = c.loop-place.place in
    let s = b.side / 2 * (b.side / 2) in
    let low = c.requires.low in
    let high = c.requires.high in
    let d : Block = record { x = 0; y = 0; side = 0 } in
    let are = c.quarters-four.ensures.value in
    let lt = c.loop-place-test.true in
    let q = part_at k b c.quarters-four.result i d (omega arith) c.requires.valid (c.in_default.ensures.none refl) are lt in
    let next = c.requires.next in
    let m = c.loop-place.maker in
    let new = c.add_counted.new.maker in
    let end = code_to (get_or c.quarters-four.result i d) in
    record {
      adds = Adds-then k f (code_from b + i * s) (code_from b + (i + 1) * s) c.args.maker.now m new (omega arith) c.loop-place.invariant.adds
          (subst (λ (e : ℕ). AddsColours k f e m new) q.to
          (subst (λ (j : ℕ). AddsColours j f end m new) c.loop-place.invariant.adds.level
          (subst (λ (o : Option Tally). IfSome o (λ r. AddsColours m.level f end m new)) c.in-Some-2.is c.in_ok-t.ensures.added)));
      joining = λ hb.
          let now = c.loop-place.invariant.joining hb in
          quarter_more c.args.corner c.args.b now c.quarters-four.result d are lt c.in-Some-2.t c.room_beside-room.result c.room_beside-room.ensures
          (subst (λ (o : Option Tally). IfSome o (IsTally c.args.level (cell_colours c.args.colours.now)
          (at_corner c.args.corner (get_or c.quarters-four.result i d)))) c.in-Some-2.is (c.in_ok-t.ensures.tallied (quarter_block c.args.corner c.args.b now c.quarters-four.result d are lt)));
    }

pub returns-clause-added : goal.returns-clause-added
returns-clause-added t c =
    let k = c.args.maker.now.level in
    let b = c.args.b in
    let low = c.requires.low in
    let high = c.requires.high in
    let wide = c.in_default.ensures.none refl in
    let four : c.loop-place.place ≡ 4 = omega arith in
    let codes = half_codes k b c.requires.valid (omega arith) wide in
    let all = codes.all in
    let end : code_from b + c.loop-place.place * (b.side / 2 * (b.side / 2)) ≡ code_to b =
    ap (λ i. code_from b + i * (b.side / 2 * (b.side / 2))) four ∙ sym all in
    any_some c.joined.result
    (subst (λ (e : ℕ). AddsColours k (from_corner c.args.level (cell_colours c.args.colours.now) c.args.corner) e c.args.maker.now c.loop-place.maker)
    end c.loop-place.invariant.adds)

pub returns-clause-tallied : goal.returns-clause-tallied
returns-clause-tallied t c = λ hb.
    let i = (c.loop-place.invariant.joining hb).tallied in
    c.joined.ensures.some c.args.level (cell_colours c.args.colours.now) (at_corner c.args.corner c.args.b) i.few i.block i.wide (tallied_all i _ c.loop-place-test.false)

pub returns-clause-past : goal.returns-clause-past
returns-clause-past t c = λ hb.
    let i = (c.loop-place.invariant.joining hb).tallied in
    c.joined.ensures.none c.args.level (cell_colours c.args.colours.now) (at_corner c.args.corner c.args.b) i.few i.block i.wide (tallied_all i _ c.loop-place-test.false)
