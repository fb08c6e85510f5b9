use Rattle.std.proofs.Common.{◌≡◌, ◌≤◌, true, false, Some, ◌∙◌, sym, subst, arith}
use Rattle.quilt_record.proofs.Readers.{segment_key, segment_ends, segment_by_parts, segment_parts}
use Rattle.quilt_record.proofs.lines.read_segment.Goals as goal

true_false : true ≡ false → ⊥
true_false e = cc

pub returns-in_default-clause-one : goal.returns-in_default-clause-one
returns-in_default-clause-one c n layer id s f =
    let k = segment_key n c.args.r.now layer id s f in
    absurd (c.in_default.not-Some c.args.r.now.key.layer
    (c.layer_in.ensures.one (subst (λ l. 1 ≤ l) (sym k.0) f.least) (subst (λ l. l ≤ 255) (sym k.0) f.most)))

pub returns-then-not-is_of_segment-clause-one : goal.returns-then-not-is_of_segment-clause-one
returns-then-not-is_of_segment-clause-one c n layer id s f =
    let ends = c.segment_in-s.ensures ∙ segment_ends n c.args.r.now layer id s f in
    absurd (true_false (sym (c.is_of_segment.ensures.no (segment_parts n c.args.r.now layer id s c.segment_in-s.result f ends))
    ∙ c.if-not-is_of_segment.true))

pub returns-clause-some : goal.returns-clause-some
returns-clause-some c n =
    let here = c.in-Some.ensures.some in
    segment_by_parts n c.args.r.now c.segment_in-s.result (omega arith) c.in-Some.ensures.most c.is_of_segment.ensures.small c.is_of_segment.ensures.fits
    (c.is_of_segment.ensures.yes c.if-not-is_of_segment.false)

pub returns-clause-one : goal.returns-clause-one
returns-clause-one c n layer id s f =
    let k = segment_key n c.args.r.now layer id s f in
    let ends = c.segment_in-s.ensures ∙ segment_ends n c.args.r.now layer id s f in
    λ i. Some (k.1 i, ends i)
