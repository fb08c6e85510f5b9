use Rattle.std.proofs.Common.{◌≡◌, ◌-◌, ◌∙◌, suc, sym, arith}
use Rattle.quilt_trial.proofs.Rests.{rest_drawn}
use Rattle.quilt_trial.proofs.trial.Trial.next_line.Goals as goal

pub returns-in_ok-text-in-Drawn-clause-given : goal.returns-in_ok-text-in-Drawn-clause-given
returns-in_ok-text-in-Drawn-clause-given c =
    let t = c.self.inside in
    let next = c.in-Drawn.ensures in
    let some : t.left ≡ suc (t.left - 1) = omega (arith, next.0) in (
      rest_drawn c.stage_behind-self-inside.result t.left (t.left - 1) t.next t.side t.generator.state c.draw_line.new.generator.state
          c.args.self.now c.in_ok-text-in-Drawn.text some
          (sym c.self.view_is ∙ next.1 t.next t.side t.generator.state) c.in_ok-text-in-Drawn.ensures.is c.stage_behind-self-inside.ensures,
      c.in_ok-text-in-Drawn.ensures.line,
    )
