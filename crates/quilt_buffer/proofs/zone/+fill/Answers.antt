use Rattle.std.proofs.Common.{rules, ◌≡◌, ℕ, ◌+◌, ◌*◌, ◌/◌, ◌<◌, List, get_or, length, sym, ◌∙◌, ap, subst, arith}
use Rattle.std.proofs.lemmas.Result.{on_ok_weaker}
use Rattle.quilt_types.specs.declared.plane.Block.{Block}
use Rattle.quilt_types.specs.Plane.{IsBlock}
use Rattle.quilt_loc.specs.Codes.{code_from, code_to}
use Rattle.quilt_loc.proofs.Blocks.{IsBlock-up}
use Rattle.quilt_loc.proofs.Nesting.{side_pos}
use Rattle.quilt_loc.proofs.Intervals.{half_codes}
use Rattle.quilt_blocks.specs.Adding.{AddsColours}
use Rattle.quilt_buffer.specs.Reach.{within_reach}
use Rattle.quilt_blocks.proofs.Adding.{Adds-then, Adds-push, part_at}
use Rattle.quilt_buffer.proofs.Filling.{filled_by_all}
use Rattle.quilt_buffer.proofs.Reaching.{near_covered, near_none, wide_if}
use Rattle.quilt_buffer.proofs.zone.+fill.Goals as goal

pub returns-then-is_covered : goal.returns-then-is_covered
returns-then-is_covered t c =
    let n = c.args.maker.now.level in
    let f = within_reach c.args.r c.args.blocks.now in
    on_ok_weaker c.push.result
    (λ is. Adds-push n f c.args.maker.now c.push.new.self c.args.square 1 c.requires.most c.requires.valid c.requires.next
    (near_covered c.args.r c.args.square c.args.blocks.now (sym c.is_covered.ensures ∙ c.if-is_covered.true)) is)
    c.push.ensures.ok

pub returns-then-is_empty : goal.returns-then-is_empty
returns-then-is_empty t c =
    let n = c.args.maker.now.level in
    let f = within_reach c.args.r c.args.blocks.now in
    let empty = sym c.is_empty.ensures ∙ c.if-is_empty.true in
    let none : length c.in_ok-close.close.items ≡ 0 = search rules in
    on_ok_weaker c.push-then-is_empty.result
    (λ is. Adds-push n f c.args.maker.now c.push-then-is_empty.new.self c.args.square 0 c.requires.most c.requires.valid c.requires.next
    (near_none c.args.r c.args.square c.args.blocks.now (sym (ap length c.in_ok-close.ensures) ∙ none)) is)
    c.push-then-is_empty.ensures.ok

pub quarters-quarter-items-requires-clause-valid : goal.quarters-quarter-items-requires-clause-valid
quarters-quarter-items-requires-clause-valid t c = IsBlock-up c.args.maker.now.level 12 c.args.square c.requires.most c.requires.valid

pub quarters-quarter-items-requires-clause-wide : goal.quarters-quarter-items-requires-clause-wide
quarters-quarter-items-requires-clause-wide t c =
    let open' = sym c.is_covered.ensures ∙ c.if-is_covered.false in
    let full = sym c.is_empty.ensures ∙ c.if-is_empty.false in
    let some : 0 < length c.in_ok-close.close.items = search rules in
    wide_if c.args.r c.args.square c.args.blocks.now (side_pos c.args.maker.now.level c.args.square c.requires.valid) open'
    (subst (λ l. 0 < length l) c.in_ok-close.ensures some)

pub fill-requires : goal.fill-requires
fill-requires t c =
    let n = c.args.maker.now.level in
    let s = c.args.square in
    let open' = sym c.is_covered.ensures ∙ c.if-is_covered.false in
    let full = sym c.is_empty.ensures ∙ c.if-is_empty.false in
    let some : 0 < length c.in_ok-close.close.items = search rules in
    let wide = wide_if c.args.r s c.args.blocks.now (side_pos n s c.requires.valid) open' (subst (λ l. 0 < length l) c.in_ok-close.ensures some) in
    let q = part_at n s c.quarters-quarter-items.result c.loop-quarter.quarter-index
    (record { x = 0; y = 0; side = 0 }) c.requires.most c.requires.valid wide c.quarters-quarter-items.ensures.value c.loop-quarter-test.true in
    let smaller = q.smaller in
    let level = c.loop-quarter.invariant.level in
    let most = c.requires.most in (
      omega arith,
      (
        omega arith,
        (
          subst (λ (k : ℕ). IsBlock k (get_or c.quarters-quarter-items.result c.loop-quarter.quarter-index (record { x = 0; y = 0; side = 0 })))
              (sym level) q.block,
          q.from ∙ sym c.loop-quarter.invariant.long,
        ),
      ),
    )

pub loop-quarter-preserved : goal.loop-quarter-preserved
loop-quarter-preserved t c =
    let n = c.args.maker.now.level in
    let s = c.args.square in
    let f = within_reach c.args.r c.in_ok-close.close.items in
    let i = c.loop-quarter.quarter-index in
    let h = s.side / 2 * (s.side / 2) in
    let open' = sym c.is_covered.ensures ∙ c.if-is_covered.false in
    let full = sym c.is_empty.ensures ∙ c.if-is_empty.false in
    let some : 0 < length c.in_ok-close.close.items = search rules in
    let wide = wide_if c.args.r s c.args.blocks.now (side_pos n s c.requires.valid) open' (subst (λ l. 0 < length l) c.in_ok-close.ensures some) in
    let q = part_at n s c.quarters-quarter-items.result i (record { x = 0; y = 0; side = 0 }) c.requires.most c.requires.valid wide
    c.quarters-quarter-items.ensures.value c.loop-quarter-test.true in
    let next = c.requires.next in
    let m = c.loop-quarter.maker in
    let new = c.fill.new.maker in
    let end = code_to (get_or c.quarters-quarter-items.result i (record { x = 0; y = 0; side = 0 })) in
    let at_level = subst (λ (k : ℕ). AddsColours k (within_reach c.args.r c.deref.result.now) end m new) c.loop-quarter.invariant.level c.in_ok-fill.ensures in
    let by_close = subst (λ (l : List Block). AddsColours n (within_reach c.args.r l) end m new) c.deref.ensures.value at_level in
    Adds-then n f (code_from s + i * h) (code_from s + (i + 1) * h) c.args.maker.now m new (omega arith) c.loop-quarter.invariant
    (subst (λ (k : ℕ). AddsColours n f k m new) q.to by_close)

pub returns : goal.returns
returns t c =
    let n = c.args.maker.now.level in
    let s = c.args.square in
    let m = c.loop-quarter.maker in
    let f = within_reach c.args.r c.in_ok-close.close.items in
    let open' = sym c.is_covered.ensures ∙ c.if-is_covered.false in
    let full = sym c.is_empty.ensures ∙ c.if-is_empty.false in
    let some : 0 < length c.in_ok-close.close.items = search rules in
    let wide = wide_if c.args.r s c.args.blocks.now (side_pos n s c.requires.valid) open' (subst (λ l. 0 < length l) c.in_ok-close.ensures some) in
    let four : c.loop-quarter.quarter-index ≡ 4 = omega arith in
    let codes = half_codes n s c.requires.valid c.requires.most wide in
    let all = codes.all in
    let end : code_from s + c.loop-quarter.quarter-index * (s.side / 2 * (s.side / 2)) ≡ code_to s =
    ap (λ k. code_from s + k * (s.side / 2 * (s.side / 2))) four ∙ sym all in
    filled_by_all n c.args.r s c.args.blocks.now c.in_ok-close.close.items c.args.maker.now m c.requires.most c.requires.valid
    c.requires.next c.in_ok-close.ensures
    (subst (λ (k : ℕ). AddsColours n f k c.args.maker.now m) end c.loop-quarter.invariant)
