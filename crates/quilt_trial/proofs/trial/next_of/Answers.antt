use Rattle.std.proofs.Common.{◌≡◌, ◌∙◌, ℕ, ap, arith, codes, refl}
use Rattle.quilt_lang.specs.Trials.{lines_from}
use Rattle.quilt_trial.specs.declared.trial.Stage.{Stage}
use Rattle.quilt_trial.specs.Rest.{rest_at}
use Rattle.quilt_trial.proofs.trial.next_of.Goals as goal

pub returns-in-First : goal.returns-in-First
returns-in-First c =
    (λ i s x. ap (λ (stage : Stage). rest_at stage c.args.left i s x) c.in-First.is, record { bytes = codes "region ta 0"; is = refl; none = refl })

pub returns-in-Second : goal.returns-in-Second
returns-in-Second c =
    (λ i s x. ap (λ (stage : Stage). rest_at stage c.args.left i s x) c.in-Second.is, record { bytes = codes "region tb 0"; is = refl; none = refl })

pub returns-in-Third : goal.returns-in-Third
returns-in-Third c =
    (λ i s x. ap (λ (stage : Stage). rest_at stage c.args.left i s x) c.in-Third.is, record { bytes = codes "points tp"; is = refl; none = refl })

pub returns-in-Fourth : goal.returns-in-Fourth
returns-in-Fourth c =
    (λ i s x. ap (λ (stage : Stage). rest_at stage c.args.left i s x) c.in-Fourth.is, record { bytes = codes "lines tl 4"; is = refl; none = refl })

pub returns-in-Publishing : goal.returns-in-Publishing
returns-in-Publishing c =
    (λ i s x. ap (λ (stage : Stage). rest_at stage c.args.left i s x) c.in-Publishing.is, record { bytes = codes "publish"; is = refl; none = refl })

pub returns-in-Drawing-2 : goal.returns-in-Drawing-2
returns-in-Drawing-2 c =
    let none : c.args.left ≡ 0 = omega arith in (
      λ i s x. ap (λ (stage : Stage). rest_at stage c.args.left i s x) c.in-Drawing-2.is ∙ ap (λ (left : ℕ). lines_from left i s x) none,
      record { bytes = codes "publish"; is = refl; none = refl },
    )
