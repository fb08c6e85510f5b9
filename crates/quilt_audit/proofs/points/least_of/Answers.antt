use Rattle.std.proofs.Common.{◌+◌, refl, inl, inr, ⊎_elim, arith}
use Rattle.std.proofs.lemmas.Bool.{cases_lt}
use Rattle.quilt_audit.proofs.points.least_of.Goals as goal

pub returns-then-not-are_four : goal.returns-then-not-are_four
returns-then-not-are_four c = record {
  enough = λ w four. absurd (c.are_four.ensures.no c.if-not-are_four.true w four);
  due = inl refl;
}

pub returns : goal.returns
returns c =
    let w = c.are_four.ensures.yes c.if-not-are_four.false in
    let e = c.saturating_sub.ensures in
    let f = c.from.ensures in
    let s = c.sum_of.ensures in
    record {
      enough = λ v four. omega arith;
      due = ⊎_elim (λ lt. inl (omega arith)) (λ ge. inr (w.0, w.1, omega arith))
          (cases_lt (c.args.bucket + 1) (c.args.a.count + c.args.b.count + c.args.c.count));
    }
