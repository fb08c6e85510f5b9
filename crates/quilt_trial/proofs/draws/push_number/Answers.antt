use Rattle.std.proofs.Common.{rules, ◌≡◌, ◌∷◌, ◌++◌, true, List, ℕ, subst, sym}
use Rattle.std.specs.Fmt.{decimal}
use Rattle.quilt_trial.specs.Drawing.{has_no_newline}
use Rattle.quilt_trial.proofs.Bytes.{plain_joined, plain_number}
use Rattle.quilt_trial.proofs.draws.push_number.Goals as goal

pub returns-clause-plain : goal.returns-clause-plain
returns-clause-plain c = λ plain.
    let number = c.args.number in
    let P : List ℕ → Type 0 = λ (l : List ℕ). has_no_newline l ≡ true in
    let is : c.push.new.self ≡ c.args.text.now ++ 32 ∷ decimal number = search rules in
    subst P (sym is) (plain_joined c.args.text.now (32 ∷ decimal number) plain (plain_number number c.ranges.number.fits))
