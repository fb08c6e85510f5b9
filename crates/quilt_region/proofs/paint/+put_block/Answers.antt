use Rattle.std.proofs.Common.{◌≡◌, ◌+◌, ◌*◌, ◌/◌, ◌≤◌, refl, sym, ◌∙◌, ap, arith}
use Rattle.std.proofs.lemmas.Result.{on_ok_weaker}
use Rattle.quilt_loc.specs.Codes.{code_from}
use Rattle.quilt_loc.proofs.Blocks.{IsBlock-up}
use Rattle.quilt_loc.proofs.Intervals.{half_codes}
use Rattle.quilt_loc.proofs.Nesting.{Within-holds}
use Rattle.quilt_blocks.specs.Painting.{Painted}
use Rattle.quilt_blocks.proofs.Adding.{part_at}
use Rattle.quilt_region.proofs.Parts.{block_room, window_room, HasColours-push, HasColours-at, IsBlock-at, is_window-at}
use Rattle.quilt_region.proofs.paint.+put_block.Goals as goal

pub one_colour-requires-clause-width : goal.one_colour-requires-clause-width
one_colour-requires-clause-width t c = (block_room c.args.maker.now.level c.args.b c.requires.most c.requires.valid).0

pub one_colour-requires-clause-height : goal.one_colour-requires-clause-height
one_colour-requires-clause-height t c = (block_room c.args.maker.now.level c.args.b c.requires.most c.requires.valid).1

pub one_colour-requires-clause-window_width : goal.one_colour-requires-clause-window_width
one_colour-requires-clause-window_width t c = (window_room c.args.maker.now.level c.args.w c.requires.most c.requires.window).0

pub one_colour-requires-clause-window_height : goal.one_colour-requires-clause-window_height
one_colour-requires-clause-window_height t c = (window_room c.args.maker.now.level c.args.w c.requires.most c.requires.window).1

pub returns-in-Some-clause-colours : goal.returns-in-Some-clause-colours
returns-in-Some-clause-colours t c =
    on_ok_weaker c.push.result
    (λ is f same. HasColours-push c.args.maker.now.level f c.args.maker.now.colours c.push.new.self.colours c.args.b c.in-Some.colour.0
    c.requires.most c.requires.valid c.requires.next
    (λ p held. same p held ∙ c.in-Some.ensures.some p held) (ap (λ (m : Painted). m.colours) is))
    c.push.ensures.ok

pub quarters-q-items-requires-clause-valid : goal.quarters-q-items-requires-clause-valid
quarters-q-items-requires-clause-valid t c = IsBlock-up c.args.maker.now.level 12 c.args.b c.requires.most c.requires.valid

pub put_block-requires : goal.put_block-requires
put_block-requires t c =
    let n = c.args.maker.now.level in
    let inv = c.loop-q.invariant in
    let q = part_at n c.args.b c.quarters-q-items.result c.loop-q.q-index (record { y = 0; x = 0; side = 0 }) c.requires.most c.requires.valid
    (c.in_default.ensures.none refl) c.quarters-q-items.ensures.value c.loop-q-test.true in
    let smaller = q.smaller in
    let level = inv.level in
    let most = c.requires.most in
    let low : c.loop-q.maker.level ≤ 12 = omega arith in (
      omega arith,
      (
        low,
        (
          IsBlock-at n c.loop-q.maker.level _
              (sym level) q.block,
          (is_window-at n c.loop-q.maker.level c.args.w (sym level) c.requires.window, q.from ∙ sym inv.long),
        ),
      ),
    )

pub loop-q-preserved : goal.loop-q-preserved
loop-q-preserved t c =
    let n = c.args.maker.now.level in
    let inv = c.loop-q.invariant in
    let q = part_at n c.args.b c.quarters-q-items.result c.loop-q.q-index _ c.requires.most c.requires.valid
    (c.in_default.ensures.none refl) c.quarters-q-items.ensures.value c.loop-q-test.true in
    let more = c.in_ok-put_block.ensures in
    record {
      level = more.level ∙ inv.level;
      long = more.end ∙ q.to;
      colours = λ f same old.
          HasColours-at c.loop-q.maker.level n f c.put_block.new.maker.colours inv.level
          (more.colours f (λ p held. same p (Within-holds _ c.args.b p q.within held))
          (HasColours-at n c.loop-q.maker.level f c.loop-q.maker.colours (sym inv.level) (inv.colours f same old)));
    }

pub returns-clause-end : goal.returns-clause-end
returns-clause-end t c =
    let n = c.args.maker.now.level in
    let b = c.args.b in
    let wide = c.in_default.ensures.none refl in
    let four : c.loop-q.q-index ≡ 4 = omega arith in
    let codes = half_codes n b c.requires.valid c.requires.most wide in
    let all = codes.all in
    c.loop-q.invariant.long ∙ ap (λ k. code_from b + k * (b.side / 2 * (b.side / 2))) four ∙ sym all
