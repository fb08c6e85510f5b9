use Rattle.std.proofs.Common.{◌≡◌, ◌∙◌, ◌-◌, ap, List, ℕ, take, drop, length}
use Rattle.quilt_lang.specs.declared.asked.Asked.TheVariants as kinds
use Rattle.quilt_lang.specs.Reading.{Unread}
use Rattle.quilt_lang.specs.Progress.{IsFrontLine}
use Rattle.quilt_words.proofs.Slices.{behind}
use Rattle.quilt_lang.proofs.Commands.{given_alone, given_command, given_spelled, given_fits}
use Rattle.quilt_lang.proofs.lines.Lines.take_command.Goals as goal

pub returns-in-Ok-clause-given : goal.returns-in-Ok-clause-given
returns-in-Ok-clause-given c =
    let bytes : List ℕ = c.self.inside.bytes.items in
    let from = c.self.inside.from in
    let text : List ℕ = c.args.self.now.rest in
    let n : ℕ = c.args.self.now.level in
    let line = c.in-There-default-Nothing.line in
    let level : c.self.inside.level ≡ n = ap (λ (s : Unread). s.level) c.self.view_is in
    let now : List ℕ = c.deref.result.now in
    let same : take (length now - from) (drop from now) ≡ text = rw c.deref.ensures.value (behind from bytes ∙ ap (λ (s : Unread). s.rest) c.self.view_is) in
    let first : IsFrontLine c.args.ended n line kinds.Nothing text =
    rw (same, level, c.in-There-default-Nothing.field-1-is) at ((rw c.in-There-default-Nothing.is at c.in_ok-progress.ensures).0) in
    let form = rw same at (rw c.in-Ok.is at c.line_command.ensures.form) in
    given_command c.args.ended n c.args.format c.in-Ok.command text (drop c.min-len.result text) _
    (given_alone c.args.ended n c.args.format c.in-Ok.command text line c.min-len.result first.loud first.cuts
    (rw same at c.min-len.ensures) (first.asks.number, form n first.asks.number)).1
    c.pass.ensures.passed

pub returns-in-Ok-clause-fitting : goal.returns-in-Ok-clause-fitting
returns-in-Ok-clause-fitting c =
    given_fits c.args.ended _ _ _ _ _ (returns-in-Ok-clause-given c)

pub returns-in-Some : goal.returns-in-Some
returns-in-Some c =
    let one = c.in_ok-command-in-There.ensures.given in
    record {
      level = c.take_raster.ensures.level;
      given = one;
      spelled = given_spelled c.args.ended _ _ _ _ _ one;
      fitting = given_fits c.args.ended _ _ _ _ _ one;
      err = tt;
    }

pub returns-in_ok-command-in-There-2 : goal.returns-in_ok-command-in-There-2
returns-in_ok-command-in-There-2 c =
    let bytes : List ℕ = c.self.inside.bytes.items in
    let from = c.self.inside.from in
    let text : List ℕ = c.args.self.now.rest in
    let level : c.self.inside.level ≡ c.args.self.now.level = ap (λ (s : Unread). s.level) c.self.view_is in
    let now : List ℕ = c.deref.result.now in
    let same : take (length now - from) (drop from now) ≡ text = rw c.deref.ensures.value (behind from bytes ∙ ap (λ (s : Unread). s.rest) c.self.view_is) in
    let one =
    given_command c.args.ended c.args.self.now.level c.args.format c.in_ok-command-in-There-2.command text (drop c.in_ok-command-in-There-2.len text) _
    (rw (same, level) at c.in_ok-command-in-There-2.ensures.gives) c.pass-in-There.ensures.passed in
    record {
      level = c.pass-in-There.ensures.level;
      given = one;
      spelled = given_spelled c.args.ended _ _ _ _ _ one;
      fitting = given_fits c.args.ended _ _ _ _ _ one;
      err = tt;
    }
