use Rattle.std.proofs.Common.{◌≡◌, ◌==◌, ◌+◌, true, false, eq-eqb, refl, sym, ◌∙◌, ap}
use Rattle.quilt_types.specs.declared.code.Code.TheVariants as no
use Rattle.quilt_words.specs.declared.command.Command.TheVariants as commands
use Rattle.quilt_replies.specs.Answers.{Outcome, Refused, edition_after}
use Rattle.quilt_map.proofs.answers.Outcomes.{answered_same, leaves_last, can_publish, leaves_given, answered_given, publish_full, publish_gives, not_equal}
use Rattle.quilt_map.proofs.answers.Outcomes.{tells_edition}
use Rattle.quilt_map.proofs.session.Session.publish.Goals as goal

pub returns-then-number-clause-answer : goal.returns-then-number-clause-answer
returns-then-number-clause-answer g c = λ s at.
    let full : (s.last.number == 4294967295) ≡ true =
    eq-eqb s.last.number 4294967295 (at.last.head.number ∙ sym c.head-number.ensures.edition.0 ∙ c.if-number.true) in
    answered_same {D = g.W.Disk} s commands.Publish c.args.self.now c.args.self.now (Refused no.Editions) _ (publish_full s full) refl refl refl at at

pub returns-then-number-clause-crash : goal.returns-then-number-clause-crash
returns-then-number-clause-crash g c = λ s at. leaves_last {D = g.W.Disk} c.args.self.now s commands.Publish at

pub returns-in_default-clause-crash : goal.returns-in_default-clause-crash
returns-in_default-clause-crash g c = λ s at. leaves_last {D = g.W.Disk} c.args.self.now s commands.Publish at

pub returns-in_err-commit-clause-crash : goal.returns-in_err-commit-clause-crash
returns-in_err-commit-clause-crash g c = λ s at.
    let free : (s.last.number == 4294967295) ≡ false =
    not_equal s.last.number 4294967295 (λ e. c.if-number.false (c.head-number.ensures.edition.0 ∙ sym at.last.head.number ∙ e)) in
    leaves_given s commands.Publish (edition_after s) _ _ (ap (λ (o : Outcome). o.published) (publish_gives s free))
    (c.commit.ensures.crash s (edition_after s) (can_publish {D = g.W.Disk} c.args.self.now s at))

pub returns-in_err-commit-clause-writes : goal.returns-in_err-commit-clause-writes
returns-in_err-commit-clause-writes g c = λ s at. c.commit.ensures.writes s (edition_after s) (can_publish {D = g.W.Disk} c.args.self.now s at)

pub returns-clause-answer : goal.returns-clause-answer
returns-clause-answer g c = λ s at.
    let free : (s.last.number == 4294967295) ≡ false =
    not_equal s.last.number 4294967295 (λ e. c.if-number.false (c.head-number.ensures.edition.0 ∙ sym at.last.head.number ∙ e)) in
    answered_given {D = g.W.Disk} s commands.Publish (edition_after s) c.args.self.now c.commit.new.self _ (publish_gives s free)
    (tells_edition s (edition_after s) c.in-Ok.text (c.head-number.result.edition + 1)
    (ap (λ k. k + 1) (c.head-number.ensures.edition.0 ∙ sym at.last.head.number)) c.in-Ok.ensures)
    (c.in_ok-commit.ensures.renewed s (edition_after s) (can_publish {D = g.W.Disk} c.args.self.now s at))

pub returns-clause-crash : goal.returns-clause-crash
returns-clause-crash g c = λ s at.
    let free : (s.last.number == 4294967295) ≡ false =
    not_equal s.last.number 4294967295 (λ e. c.if-number.false (c.head-number.ensures.edition.0 ∙ sym at.last.head.number ∙ e)) in
    leaves_given s commands.Publish (edition_after s) _ _ (ap (λ (o : Outcome). o.published) (publish_gives s free))
    (c.commit.ensures.crash s (edition_after s) (can_publish {D = g.W.Disk} c.args.self.now s at))

pub returns-clause-writes : goal.returns-clause-writes
returns-clause-writes g c = λ s at. c.commit.ensures.writes s (edition_after s) (can_publish {D = g.W.Disk} c.args.self.now s at)
