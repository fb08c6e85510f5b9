use Rattle.std.proofs.Common.{◌∙◌, sym, ap, inl, inr, ⊎_elim, arith}
use Rattle.quilt_record.specs.declared.entry.Entry.{Entry}
use Rattle.quilt_audit.proofs.Lists.{take_cases, item_there, take_whole}
use Rattle.quilt_audit.proofs.checker.next_number.Goals as goal

pub loop-e-preserved : goal.loop-e-preserved
loop-e-preserved c =
    let i = c.loop-e.invariant in
    let over = c.nearer-next.ensures.over in
    let most = i.most in
    record {
      over = over.0;
      most = omega arith;
      reached = ⊎_elim
          (λ same. ⊎_elim (λ none. inl (same ∙ none)) (λ w. inr (w.0, w.1, w.2 ∙ sym same)) i.reached)
          (λ new. inr (c.e-item.result, item_there c.args.entries.now c.loop-e.e-index c.e-item.result c.loop-e-test.true c.e-item.is, sym new))
          c.nearer-next.ensures.one;
      least = λ e m. ⊎_elim
          (λ old. ⊎_elim (λ low. inl low) (λ high. let a = high.0 in inr (omega arith, high.1)) (i.least e old))
          (λ same. let k = ap (λ (x : Entry). x.number) same in
          ⊎_elim (λ low. inl (omega arith)) (λ high. let a = high.0 in let b = high.1 in inr (omega arith, omega arith)) c.nearer-next.ensures.least)
          (take_cases c.args.entries.now c.loop-e.e-index c.e-item.result e c.loop-e-test.true c.e-item.is m);
    }

pub returns-clause-least : goal.returns-clause-least
returns-clause-least c e m = c.loop-e.invariant.least e (take_whole c.args.entries.now c.loop-e.e-index e c.loop-e-test.false m)
