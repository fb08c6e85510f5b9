use Rattle.std.proofs.Common.{◌≡◌, ◌==◌, ◌+◌, ◌*◌, true, false, Option, eq-eqb, refl, sym, ◌∙◌, ap, subst}
use Rattle.quilt_types.specs.declared.code.Code.TheVariants as no
use Rattle.quilt_world.specs.Tale.{Tale, Goes}
use Rattle.quilt_words.specs.declared.command.Command.TheVariants as commands
use Rattle.quilt_node.specs.declared.head.Head.{Head}
use Rattle.quilt_journal.specs.Writing.{Writing}
use Rattle.quilt_replies.specs.Answers.{Outcome, Refused, upgraded}
use Rattle.quilt_map.specs.Steps.{LeavesEdition}
use Rattle.quilt_map.proofs.answers.Outcomes.{answered_same, leaves_last, can_upgrade, leaves_given, answered_given, upgrade_again, upgrade_full, upgrade_gives}
use Rattle.quilt_map.proofs.answers.Outcomes.{not_equal, tells_edition}
use Rattle.quilt_map.proofs.session.Session.upgrade.Goals as goal

pub returns-then-head-eq2-clause-answer : goal.returns-then-head-eq2-clause-answer
returns-then-head-eq2-clause-answer g c = λ s at.
    let two : (s.last.format == 2) ≡ true =
    eq-eqb s.last.format 2 (at.last.head.format ∙ sym at.format ∙ sym (ap (λ (h : Head). h.format) c.head-head.ensures.work) ∙ c.if-head-eq2.true) in
    answered_same {D = g.W.Disk} s commands.Upgrade c.args.self.now c.args.self.now (Refused no.Format) _ (upgrade_again s two) refl refl refl at at

pub returns-then-head-clause-answer : goal.returns-then-head-clause-answer
returns-then-head-clause-answer g c = λ s at.
    let one : (s.last.format == 2) ≡ false =
    not_equal s.last.format 2 (λ e. c.if-head-eq2.false (ap (λ (h : Head). h.format) c.head-head.ensures.work ∙ at.format ∙ sym at.last.head.format ∙ e)) in
    let full : (s.last.number == 4294967295) ≡ true =
    eq-eqb s.last.number 4294967295 (at.last.head.number ∙ sym c.head-head.ensures.edition.0 ∙ c.if-head.true) in
    answered_same {D = g.W.Disk} s commands.Upgrade c.args.self.now c.args.self.now (Refused no.Editions) _ (upgrade_full s one full) refl refl refl at at

pub returns-then-head-eq2-clause-crash : goal.returns-then-head-eq2-clause-crash
returns-then-head-eq2-clause-crash g c = λ s at. leaves_last {D = g.W.Disk} c.args.self.now s commands.Upgrade at

pub returns-then-head-clause-crash : goal.returns-then-head-clause-crash
returns-then-head-clause-crash g c = λ s at. leaves_last {D = g.W.Disk} c.args.self.now s commands.Upgrade at

pub returns-in_default-clause-crash : goal.returns-in_default-clause-crash
returns-in_default-clause-crash g c = λ s at. leaves_last {D = g.W.Disk} c.args.self.now s commands.Upgrade at

pub returns-in_err-commit-clause-crash : goal.returns-in_err-commit-clause-crash
returns-in_err-commit-clause-crash g c = λ s at.
    let old = c.args.self.now in
    let r = c.raise.ensures in
    let one : (s.last.format == 2) ≡ false =
    not_equal s.last.format 2 (λ e. c.if-head-eq2.false (ap (λ (h : Head). h.format) c.head-head.ensures.work ∙ at.format ∙ sym at.last.head.format ∙ e)) in
    let room : (s.last.number == 4294967295) ≡ false =
    not_equal s.last.number 4294967295 (λ e. c.if-head.false (c.head-head.ensures.edition.0 ∙ sym at.last.head.number ∙ e)) in
    let can = can_upgrade {D = g.W.Disk} old c.raise.new.self s at one r.work r.last r.used r.free r.changed r.world r.goes_on r.told in
    let told : g.W.Disk.told c.raise.new.self.world ≡ g.W.Disk.told old.book.world = ap (λ w. g.W.Disk.told w) r.world in
    subst (λ (o : Option Tale). Goes (LeavesEdition s commands.Upgrade) o (g.W.Disk.told c.commit.new.self.book.world)) told
    (leaves_given s commands.Upgrade (upgraded s) _ _ (ap (λ (o : Outcome). o.published) (upgrade_gives s one room)) (c.commit.ensures.crash s (upgraded s) can))

pub returns-in_err-commit-clause-writes : goal.returns-in_err-commit-clause-writes
returns-in_err-commit-clause-writes g c = λ s at.
    let old = c.args.self.now in
    let r = c.raise.ensures in
    let one : (s.last.format == 2) ≡ false =
    not_equal s.last.format 2 (λ e. c.if-head-eq2.false (ap (λ (h : Head). h.format) c.head-head.ensures.work ∙ at.format ∙ sym at.last.head.format ∙ e)) in
    let room : (s.last.number == 4294967295) ≡ false =
    not_equal s.last.number 4294967295 (λ e. c.if-head.false (c.head-head.ensures.edition.0 ∙ sym at.last.head.number ∙ e)) in
    let can = can_upgrade {D = g.W.Disk} old c.raise.new.self s at one r.work r.last r.used r.free r.changed r.world r.goes_on r.told in
    let told : g.W.Disk.told c.raise.new.self.world ≡ g.W.Disk.told old.book.world = ap (λ w. g.W.Disk.told w) r.world in
    subst (λ (o : Option Tale). Goes (Writing (18 * old.changes + 8)) o (g.W.Disk.told c.commit.new.self.book.world)) told
    (c.commit.ensures.writes s (upgraded s) can)

pub returns-clause-crash : goal.returns-clause-crash
returns-clause-crash g c = λ s at.
    let old = c.args.self.now in
    let r = c.raise.ensures in
    let one : (s.last.format == 2) ≡ false =
    not_equal s.last.format 2 (λ e. c.if-head-eq2.false (ap (λ (h : Head). h.format) c.head-head.ensures.work ∙ at.format ∙ sym at.last.head.format ∙ e)) in
    let room : (s.last.number == 4294967295) ≡ false =
    not_equal s.last.number 4294967295 (λ e. c.if-head.false (c.head-head.ensures.edition.0 ∙ sym at.last.head.number ∙ e)) in
    let can = can_upgrade {D = g.W.Disk} old c.raise.new.self s at one r.work r.last r.used r.free r.changed r.world r.goes_on r.told in
    let told : g.W.Disk.told c.raise.new.self.world ≡ g.W.Disk.told old.book.world = ap (λ w. g.W.Disk.told w) r.world in
    subst (λ (o : Option Tale). Goes (LeavesEdition s commands.Upgrade) o (g.W.Disk.told c.commit.new.self.book.world)) told
    (leaves_given s commands.Upgrade (upgraded s) _ _ (ap (λ (o : Outcome). o.published) (upgrade_gives s one room)) (c.commit.ensures.crash s (upgraded s) can))

pub returns-clause-writes : goal.returns-clause-writes
returns-clause-writes g c = λ s at.
    let old = c.args.self.now in
    let r = c.raise.ensures in
    let one : (s.last.format == 2) ≡ false =
    not_equal s.last.format 2 (λ e. c.if-head-eq2.false (ap (λ (h : Head). h.format) c.head-head.ensures.work ∙ at.format ∙ sym at.last.head.format ∙ e)) in
    let room : (s.last.number == 4294967295) ≡ false =
    not_equal s.last.number 4294967295 (λ e. c.if-head.false (c.head-head.ensures.edition.0 ∙ sym at.last.head.number ∙ e)) in
    let can = can_upgrade {D = g.W.Disk} old c.raise.new.self s at one r.work r.last r.used r.free r.changed r.world r.goes_on r.told in
    let told : g.W.Disk.told c.raise.new.self.world ≡ g.W.Disk.told old.book.world = ap (λ w. g.W.Disk.told w) r.world in
    subst (λ (o : Option Tale). Goes (Writing (18 * old.changes + 8)) o (g.W.Disk.told c.commit.new.self.book.world)) told
    (c.commit.ensures.writes s (upgraded s) can)

pub returns-clause-answer : goal.returns-clause-answer
returns-clause-answer g c = λ s at.
    let old = c.args.self.now in
    let r = c.raise.ensures in
    let one : (s.last.format == 2) ≡ false =
    not_equal s.last.format 2 (λ e. c.if-head-eq2.false (ap (λ (h : Head). h.format) c.head-head.ensures.work ∙ at.format ∙ sym at.last.head.format ∙ e)) in
    let room : (s.last.number == 4294967295) ≡ false =
    not_equal s.last.number 4294967295 (λ e. c.if-head.false (c.head-head.ensures.edition.0 ∙ sym at.last.head.number ∙ e)) in
    let can = can_upgrade {D = g.W.Disk} old c.raise.new.self s at one r.work r.last r.used r.free r.changed r.world r.goes_on r.told in
    let told : g.W.Disk.told c.raise.new.self.world ≡ g.W.Disk.told old.book.world = ap (λ w. g.W.Disk.told w) r.world in
    answered_given {D = g.W.Disk} s commands.Upgrade (upgraded s) old c.commit.new.self _ (upgrade_gives s one room)
    (tells_edition s (upgraded s) c.in-Ok.text (c.head-head.result.edition + 1)
    (ap (λ k. k + 1) (c.head-head.ensures.edition.0 ∙ sym at.last.head.number)) c.in-Ok.ensures)
    (c.in_ok-commit.ensures.renewed s (upgraded s) can)
