use Rattle.std.proofs.Common.{⊎_elim, refl, ◌∙◌, arith}
use Rattle.std.proofs.lemmas.Bool.{cases_lt}
use Rattle.quilt_poly.proofs.Strips.{row_settled, row_kept, row_at}
use Rattle.quilt_poly.proofs.bits.settle_strip.Goals as goal

pub loop-y-init : goal.loop-y-init
loop-y-init c = record { done = λ y i lt few. absurd (omega arith); before = λ k lt. refl; behind = λ k le. refl }

pub loop-y-preserved : goal.loop-y-preserved
loop-y-preserved c =
    let first = c.args.words.now in
    let old = c.loop-y.words in
    let new = c.settle_word.new.words in
    let s = c.args.side in
    let strip = c.args.strip in
    let row = c.loop-y.y in
    let h = c.loop-y.invariant in
    record {
      done = λ y i lt few.
          ⊎_elim (λ less. row_kept old new s row y strip i c.settle_word.ensures.kept (λ e. omega arith) few ∙ h.done y i less few)
          (λ from. row_at first new s row y strip i (omega arith)
          (row_settled first old new s row strip i h.behind c.loop-y-test.true (c.settle_word.ensures.done i few))) (cases_lt y row);
      before = λ k lt. c.settle_word.ensures.kept k (λ e. omega arith) ∙ h.before k lt;
      behind = λ k le. c.settle_word.ensures.kept k (λ e. omega arith) ∙ h.behind k (omega arith);
    }
