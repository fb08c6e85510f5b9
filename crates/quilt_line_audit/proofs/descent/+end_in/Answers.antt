use Rattle.std.proofs.Common.{◌≡◌, ℕ, List, get_or, length, drop, sym, ◌∙◌, ap, subst, inl, inr, arith}
use Rattle.quilt_types.specs.declared.plane.Block.{Block}
use Rattle.quilt_types.specs.declared.plane.Seg.{Seg}
use Rattle.quilt_types.specs.Plane.{side}
use Rattle.quilt_blocks.proofs.Adding.{part_at}
use Rattle.quilt_line_audit.specs.Pairs.{BeginsWithPairs, EachInTurn}
use Rattle.quilt_line_audit.proofs.Descents.{IsLeaf, leaf_some, leaf_none, cut_some, cut_none, turn_stops, turn_goes, turn_done, more_than_one, quarter_side_at}
use Rattle.quilt_line_audit.proofs.Descents.{some_map, none_map, some_from, none_from}
use Rattle.quilt_line_audit.proofs.descent.+end_in.Goals.{then-square-eq1-via-then-square-eq1, then-square-eq1-via-else-square-eq1+then-is_on}
use Rattle.quilt_line_audit.proofs.descent.+end_in.Goals as goal

abbrev no_block : Block
no_block = record { y = 0; x = 0; side = 0 }

pub returns-then-square-eq1-clause-some : goal.returns-then-square-eq1-clause-some
returns-then-square-eq1-clause-some t c =
    some_map c.end_on.result (λ end here k e. leaf_some c.args.square c.args.segs.now k (drop c.args.at c.args.pairs.now)
    (drop end c.args.pairs.now) here) c.end_on.ensures.some

pub returns-then-square-eq1-clause-none : goal.returns-then-square-eq1-clause-none
returns-then-square-eq1-clause-none t c =
    let leaf : IsLeaf c.args.square (drop c.args.at c.args.pairs.now) = elim c.then-square-eq1.branch [
      | then-square-eq1-via-then-square-eq1 w ↦ inl w.if-square-eq1.true
      | then-square-eq1-via-else-square-eq1+then-is_on w
          ↦ (let f = w.is_on.ensures.yes w.if-is_on.true in inr (record { first = f.0; more = f.1; are = f.2; on = f.3 }))
    ] in
    none_map c.end_on.result (λ none. leaf_none c.args.square c.args.segs.now (drop c.args.at c.args.pairs.now) leaf none) c.end_on.ensures.none

pub end_in-requires : goal.end_in-requires
end_in-requires t c =
    let b = c.args.square in
    let found = c.deref.ensures.value ∙ c.in_ok-near.ensures in
    let many = more_than_one b c.args.segs.now c.deref.result.now found c.requires.block c.if-square-eq1.false in
    let q = part_at 12 b c.quarters-quarter-items.result c.loop-quarter.quarter-index no_block
    (omega arith) c.requires.block many c.quarters-quarter-items.ensures.value c.loop-quarter-test.true in
    let smaller = q.smaller in
    (omega arith, (q.block, c.loop-quarter.invariant.within))

pub returns-in-None-clause-none : goal.returns-in-None-clause-none
returns-in-None-clause-none t c =
    let b = c.args.square in
    let found = c.deref.ensures.value ∙ c.in_ok-near.ensures in
    let qs = c.quarters-quarter-items.result in
    let i = c.loop-quarter.quarter-index in
    let many = more_than_one b c.args.segs.now c.deref.result.now found c.requires.block c.if-square-eq1.false in
    let long : length qs ≡ 4 = ap length c.quarters-quarter-items.ensures.value in
    let lt = c.loop-quarter-test.true in
    let none = none_from c.in_ok-end_in.field-0 c.in-None.is c.in_ok-end_in.ensures.none in
    let side_at = λ (k : ℕ) (e : b.side ≡ side (ℕ.suc k)). quarter_side_at k b qs i no_block e c.quarters-quarter-items.ensures.value lt in
    cut_none b c.args.segs.now c.deref.result.now found c.requires.block c.if-square-eq1.false qs
    c.quarters-quarter-items.ensures.value (drop c.args.at c.args.pairs.now)
    (c.is_on.ensures.no c.if-is_on.false)
    (λ k rest e turn.
    turn_stops k c.deref.result.now qs i no_block (omega arith) (drop c.loop-quarter.end c.args.pairs.now) rest
    (λ mid h. none k mid (side_at k e) h)
    (subst (λ (l : List (ℕ × Seg)). EachInTurn (BeginsWithPairs l k) (drop i qs) (drop c.loop-quarter.end c.args.pairs.now) rest) (sym c.deref.ensures.value)
    ((c.loop-quarter.invariant.goes k rest e).1
    (subst (λ (l : List (ℕ × Seg)). EachInTurn (BeginsWithPairs l k) qs (drop c.args.at c.args.pairs.now) rest) c.deref.ensures.value turn))))

pub loop-quarter-preserved : goal.loop-quarter-preserved
loop-quarter-preserved t c =
    let b = c.args.square in
    let near = c.in_ok-near.near.items in
    let qs = c.quarters-quarter-items.result in
    let i = c.loop-quarter.quarter-index in
    let long : length qs ≡ 4 = ap length c.quarters-quarter-items.ensures.value in
    let lt = c.loop-quarter-test.true in
    let some = some_from c.in_ok-end_in.field-0 c.in-Some.next _ c.in-Some.is c.in_ok-end_in.ensures.some in
    record {
      within = some_from c.in_ok-end_in.field-0 c.in-Some.next _ c.in-Some.is c.in_ok-end_in.ensures.within;
      goes = λ k rest e.
          let side_at = quarter_side_at k b qs i no_block e c.quarters-quarter-items.ensures.value lt in
          let here =
          subst (λ (l : List (ℕ × Seg)). BeginsWithPairs l k (get_or qs i no_block) (drop c.loop-quarter.end c.args.pairs.now)
          (drop c.in-Some.next c.args.pairs.now)) c.deref.ensures.value (some k side_at) in
          let step = turn_goes k near qs i no_block (omega arith) (drop c.loop-quarter.end c.args.pairs.now) (drop c.in-Some.next c.args.pairs.now)
          side_at here rest in
          let goes = c.loop-quarter.invariant.goes k rest e in
          (λ h. goes.0 (step.0 h), λ h. step.1 (goes.1 h));
    }

pub returns-clause-some : goal.returns-clause-some
returns-clause-some t c =
    let b = c.args.square in
    let near = c.in_ok-near.near.items in
    let qs = c.quarters-quarter-items.result in
    let long : length qs ≡ 4 = ap length c.quarters-quarter-items.ensures.value in
    let past = c.loop-quarter-test.false in
    let rest = drop c.loop-quarter.end c.args.pairs.now in
    cut_some b c.args.segs.now near c.in_ok-near.ensures c.requires.block c.if-square-eq1.false qs c.quarters-quarter-items.ensures.value
    (drop c.args.at c.args.pairs.now) rest
    (λ k e. (c.loop-quarter.invariant.goes k rest e).0 (turn_done k near qs c.loop-quarter.quarter-index rest (omega arith)))
