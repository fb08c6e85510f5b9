use Rattle.std.proofs.Common.{◌∙◌, ◌++◌, List, ℕ, sym, subst}
use Rattle.std.proofs.lemmas.Result.{IfOk-weaker}
use Rattle.quilt_top.specs.Trying.{text_left}
use Rattle.quilt_top.proofs.turns.Trials.{Leads, given_last}
use Rattle.quilt_top.proofs.trial_items.TrialItems.take_command.Goals as goal

pub returns-clause-given : goal.returns-clause-given
returns-clause-given c =
    let n : ℕ = c.args.self.now.lines.level in
    let start = text_left c.args.self.now in
    let none = rw c.in_default.is at c.in_ok-spelled.ensures.given in
    let ended = rw c.in_default-2.is at c.in_ok-line.ensures.given in
    let leads : Leads n start (c.take_command.new.self.rest ++ c.lines.self.trial) =
    subst (λ (l : List ℕ). Leads n start (l ++ c.lines.self.trial)) (sym none.0) c.lines.invariant.leads in
    let last = rw (c.take_command.ensures.level ∙ c.lines.invariant.level) at c.take_command-2.ensures.given in
    IfOk-weaker c.take_command-2.result _ _
    (λ found so. given_last n c.args.format start c.take_command.new.self.rest c.lines.self.trial _ leads ended.0 ended.1 found _ so) last
