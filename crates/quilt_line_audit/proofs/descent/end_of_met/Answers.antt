use Rattle.std.proofs.Common.{◌≡◌, ◌↔◌, ℕ, ◌+◌, ◌<◌, ◌++◌, List, length, drop, map, sym, ◌∙◌, ap, subst, arith}
use Rattle.quilt_types.specs.declared.plane.Seg.{Seg}
use Rattle.quilt_line_audit.specs.declared.pair.Pair.{Pair}
use Rattle.quilt_line_audit.specs.Pairs.{near, pair_on}
use Rattle.quilt_line_audit.proofs.Places.{some_pairs, near_takes, near_skips, pair_misses, pair_found}
use Rattle.quilt_line_audit.proofs.descent.end_of_met.Goals.{then-is_met+in-Some, else-is_met}
use Rattle.quilt_line_audit.proofs.descent.end_of_met.Goals as goal

abbrev no_segment : ℕ × Seg
no_segment = (0, record { x1 = 0; y1 = 0; x2 = 0; y2 = 0 })

pub returns-in-None-clause-none : goal.returns-in-None-clause-none
returns-in-None-clause-none c rest h =
    let b = c.args.block in
    let segs = c.args.segs.now in
    let i = c.loop-id.id-index in
    let met = sym c.is_met.ensures ∙ c.if-is_met.true in
    let long = ap length (near_takes b segs i no_segment c.loop-id-test.true met) in
    let count = c.loop-id.invariant.count in
    let from = c.loop-id.invariant.from in
    let some : 0 < length (near b segs) = omega arith in
    pair_misses b segs i no_segment c.loop-id-test.true c.args.pairs.now c.loop-id.end met rest c.in-None.ensures.none
    ((c.loop-id.invariant.goes rest).1 (h ∙ ap (λ (l : List Pair). l ++ rest) (some_pairs b (near b segs) some)))

pub loop-id-preserved : goal.loop-id-preserved
loop-id-preserved c =
    let b = c.args.block in
    let segs = c.args.segs.now in
    let pairs = c.args.pairs.now in
    let i = c.loop-id.id-index in
    let lt = c.loop-id-test.true in
    let more = near b (drop (i + 1) segs) in
    let count = c.loop-id.invariant.count in
    let from = c.loop-id.invariant.from in
    elim c.if-is_met.branch [
      | then-is_met+in-Some w ↦ (
          let met = sym c.is_met.ensures ∙ w.if-is_met.true in
          let next = w.in-Some.ensures.next in
          let within = w.in-Some.ensures.within in
          let is = w.end-is in
          let long = ap length (near_takes b segs i no_segment lt met) in
          record {
            from = omega arith;
            within = omega arith;
            count = omega arith;
            goes = λ rest.
                let found = pair_found b segs i no_segment lt pairs c.loop-id.end met w.in-Some.next rest w.in-Some.ensures.some in
                let goes = c.loop-id.invariant.goes rest in
                subst (λ (z : ℕ). (drop z pairs ≡ map (pair_on b) more ++ rest) ↔ (drop c.args.at pairs ≡ map (pair_on b) (near b segs) ++ rest)) (sym is)
                (λ h. goes.0 (found.0 h), λ h. found.1 (goes.1 h));
          })
      | else-is_met w ↦ (
          let skips = near_skips b segs i no_segment lt (sym c.is_met.ensures ∙ w.if-is_met.false) in
          let is = w.end-is in
          let long = ap length skips in
          let within = c.loop-id.invariant.within in
          record {
            from = omega arith;
            within = omega arith;
            count = omega arith;
            goes = λ rest.
                let goes = c.loop-id.invariant.goes rest in
                let same = ap (λ (l : List (ℕ × Seg)). map (pair_on b) l ++ rest) skips in
                subst (λ (z : ℕ). (drop z pairs ≡ map (pair_on b) more ++ rest) ↔ (drop c.args.at pairs ≡ map (pair_on b) (near b segs) ++ rest)) (sym is)
                (λ h. goes.0 (h ∙ sym same), λ h. goes.1 h ∙ same);
          })
    ]
