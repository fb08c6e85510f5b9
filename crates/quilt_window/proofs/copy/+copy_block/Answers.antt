use Rattle.std.proofs.Common.{◌≡◌, ℕ, ◌+◌, ◌*◌, ◌/◌, refl, sym, ◌∙◌, ap, subst, arith}
use Rattle.std.proofs.Math.Nat.{mul-le-mul_right}
use Rattle.std.proofs.lemmas.Result.{on_ok_weaker}
use Rattle.quilt_loc.specs.Codes.{code_from, code_to}
use Rattle.quilt_loc.proofs.Blocks.{IsBlock-up}
use Rattle.quilt_loc.proofs.Intervals.{half_codes}
use Rattle.quilt_blocks.specs.Adding.{AddsColours}
use Rattle.quilt_window.specs.Copying.{copied_colour}
use Rattle.quilt_blocks.proofs.Adding.{Adds-then, Adds-push, part_at}
use Rattle.quilt_blocks.proofs.Squares.{block_room}
use Rattle.quilt_window.proofs.Sources.{span_room}
use Rattle.quilt_window.proofs.copy.+copy_block.Goals as goal

pub returns-in-Some-clause-copied : goal.returns-in-Some-clause-copied
returns-in-Some-clause-copied t c =
    let n = c.args.a.now.level in
    on_ok_weaker c.push.result
    (λ is. Adds-push n (copied_colour n c.args.a.now.grid c.args.across c.args.down) c.args.maker.now c.push.new.self c.args.b c.in-Some.colour.0
    c.requires.most c.requires.valid c.requires.next c.in-Some.ensures.some is)
    c.push.ensures.ok

pub quarters-q-items-requires-clause-valid : goal.quarters-q-items-requires-clause-valid
quarters-q-items-requires-clause-valid t c = IsBlock-up c.args.a.now.level 12 c.args.b c.requires.most c.requires.valid

pub copy_block-requires : goal.copy_block-requires
copy_block-requires t c =
    let q = part_at c.args.a.now.level c.args.b c.quarters-q-items.result c.loop-q.q-index _ c.requires.most c.requires.valid
    (c.in_default.ensures.none refl) c.quarters-q-items.ensures.value c.loop-q-test.true in
    let smaller = q.smaller in
    let level = c.loop-q.invariant.added.level ∙ c.requires.level in
    let next = q.from ∙ sym c.loop-q.invariant.added.long in
    (omega arith, (c.requires.least, (c.requires.most, (q.block, (c.requires.across, (c.requires.down, (level, (next, c.loop-q.invariant.room))))))))

pub loop-q-preserved : goal.loop-q-preserved
loop-q-preserved t c =
    let n = c.args.a.now.level in
    let f = copied_colour n c.args.a.now.grid c.args.across c.args.down in
    let b = c.args.b in
    let i = c.loop-q.q-index in
    let s = b.side / 2 * (b.side / 2) in
    let q = part_at n b c.quarters-q-items.result i _ c.requires.most c.requires.valid
    (c.in_default.ensures.none refl) c.quarters-q-items.ensures.value c.loop-q-test.true in
    let next = c.requires.next in
    record {
      added =
          Adds-then n f (code_from b + i * s) (code_from b + (i + 1) * s) c.args.maker.now c.loop-q.maker c.copy_block.new.maker (omega arith)
          c.loop-q.invariant.added (subst (λ (k : ℕ). AddsColours n f k c.loop-q.maker c.copy_block.new.maker) q.to c.in_ok-copy_block.ensures.copied);
      room = c.copy_block.ensures.room;
    }

pub returns-clause-copied : goal.returns-clause-copied
returns-clause-copied t c =
    let n = c.args.a.now.level in
    let b = c.args.b in
    let wide = c.in_default.ensures.none refl in
    let four : c.loop-q.q-index ≡ 4 = omega arith in
    let codes = half_codes n b c.requires.valid c.requires.most wide in
    let all = codes.all in
    let end : code_from b + c.loop-q.q-index * (b.side / 2 * (b.side / 2)) ≡ code_to b =
    ap (λ k. code_from b + k * (b.side / 2 * (b.side / 2))) four ∙ sym all in
    subst (λ (k : ℕ). AddsColours n (copied_colour n c.args.a.now.grid c.args.across c.args.down) k c.args.maker.now c.loop-q.maker) end c.loop-q.invariant.added

pub covers-requires-clause-here : goal.covers-requires-clause-here
covers-requires-clause-here t c = (block_room c.args.a.now.level c.args.b c.requires.most c.requires.valid).0

pub covers-requires-clause-there : goal.covers-requires-clause-there
covers-requires-clause-there t c = (span_room c.args.a.now.level c.args.across c.requires.most c.requires.across).1

pub covers-requires-then-covers-clause-here : goal.covers-requires-then-covers-clause-here
covers-requires-then-covers-clause-here t c = (block_room c.args.a.now.level c.args.b c.requires.most c.requires.valid).1

pub covers-requires-then-covers-clause-there : goal.covers-requires-then-covers-clause-there
covers-requires-then-covers-clause-there t c = (span_room c.args.a.now.level c.args.down c.requires.most c.requires.down).1

pub copy_tile-requires-clause-room : goal.copy_tile-requires-clause-room
copy_tile-requires-clause-room t c =
    let small = c.if-b-le-TILE.true in
    let rows = mul-le-mul_right c.args.b.side small in
    let room = c.requires.room in
    omega arith
