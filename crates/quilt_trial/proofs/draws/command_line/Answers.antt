use Rattle.std.proofs.Common.{◌≡◌, ◌∙◌, ◌++◌, ◌∷◌, List, ℕ, ap, arith, take}
use Rattle.std.proofs.lemmas.List.{take_all}
use Rattle.quilt_trial.proofs.Bytes.{command_is, numbers_text}
use Rattle.quilt_trial.proofs.draws.command_line.Goals as goal

pub returns-clause-is : goal.returns-clause-is
returns-clause-is c =
    let numbers : List ℕ = c.args.numbers.now in
    let front : List ℕ = c.args.word.now ++ 32 ∷ c.args.layer.now in
    let all : take c.loop-number.number-index numbers ≡ numbers = take_all c.loop-number.number-index numbers (omega arith) in
    let text : c.loop-number.text ≡ front ++ numbers_text numbers = c.loop-number.invariant.text ∙ ap (λ (ns : List ℕ). front ++ numbers_text ns) all in
    c.in_ok-push-4.ensures.ok ∙ command_is c.args.word.now c.args.layer.now numbers c.loop-number.text text
