use Rattle.std.proofs.Common.{inl, inr, ⊎_elim, sym, ◌∙◌}
use Rattle.quilt_lines.proofs.runs.Run.after.Goals as goal

pub returns-in-Some-with-clause-each : goal.returns-in-Some-with-clause-each
returns-in-Some-with-clause-each c q from upto =
    ⊎_elim (λ e. inl (e, sym c.find.ensures ∙ c.in-None.is)) (λ h. inr h) (c.in-Some-with.ensures.each q from upto)
