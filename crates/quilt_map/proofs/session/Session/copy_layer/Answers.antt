use Rattle.std.proofs.Common.{◌≢◌, ℕ, ◌<◌, ◌∷◌, List, length, All, refl, sym, ◌∙◌, ap, subst}
use Rattle.std.proofs.lemmas.Result.{err_from_is_err_and}
use Rattle.quilt_types.specs.Layers.{is_name}
use Rattle.quilt_types.specs.declared.code.Code.TheVariants as no
use Rattle.quilt_record.specs.declared.entry.Entry.{Entry}
use Rattle.quilt_record.specs.declared.record.Record.{Record}
use Rattle.quilt_spell.specs.Catalogued.{IsCatalogOf}
use Rattle.quilt_words.specs.declared.command.Command.TheVariants as commands
use Rattle.quilt_replies.specs.Answers.{Refused}
use Rattle.quilt_map.specs.Copying.{BeginsWithEntry}
use Rattle.quilt_map.specs.Making.{AnsweredBy, layer_placed}
use Rattle.quilt_replies.specs.declared.reply.Reply.TheVariants as given
use Rattle.quilt_map.proofs.answers.Asked.{if_ok, if_err}
use Rattle.quilt_map.proofs.states.ChangeSteps.{goes_here}
use Rattle.quilt_map.proofs.plans.Copies.{copy_unknown, copy_refused, tree_before, at_tree, copy_plan, copy_answer}
use Rattle.quilt_map.proofs.states.Going.{goes_of, goes_both}
use Rattle.quilt_map.proofs.states.Moving.{later_at, with_book}
use Rattle.quilt_map.proofs.answers.Outcomes.{answered_same}
use Rattle.quilt_map.proofs.states.Causes.{cause_then}
use Rattle.quilt_map.proofs.session.Session.copy_layer.Goals as goal

pub returns-in_default-clause-goes_on : goal.returns-in_default-clause-goes_on
returns-in_default-clause-goes_on g c = goes_here {D = g.W.Disk} c.args.self.now.book

pub returns-in_default-clause-answer : goal.returns-in_default-clause-answer
returns-in_default-clause-answer g c = λ s at.
    let old = c.args.self.now in
    let name = c.args.name.now in
    let catalog = subst (λ (es : List Entry). IsCatalogOf s.work at.work.numbers es) (sym c.entries.ensures.entries) at.work.catalog in
    answered_same {D = g.W.Disk} s (commands.Copy name c.args.other.now) old _ (Refused no.Unknown) (given.No no.Unknown)
    (copy_unknown s name c.args.other.now (c.in_default.ensures.none refl s.work at.work.numbers catalog)) refl refl refl at at

pub returns-in-Some-why_not_new-clause-goes_on : goal.returns-in-Some-why_not_new-clause-goes_on
returns-in-Some-why_not_new-clause-goes_on g c = goes_here {D = g.W.Disk} c.args.self.now.book

pub returns-in-Some-why_not_new-clause-answer : goal.returns-in-Some-why_not_new-clause-answer
returns-in-Some-why_not_new-clause-answer g c = λ s at.
    let old = c.args.self.now in
    let name = c.args.name.now in
    let other = c.args.other.now in
    let code = c.in-Some-why_not_new.code in
    let found = c.in-Some.ensures.some s.work at.work.numbers
    (subst (λ (es : List Entry). IsCatalogOf s.work at.work.numbers es) (sym c.entries.ensures.entries) at.work.catalog) in
    let refuses = c.in-Some-why_not_new.ensures.refuses s at.work.numbers
    (subst (λ (es : List Entry). IsCatalogOf s.work at.work.numbers es) (sym c.entries-2.ensures.entries) at.work.catalog) in
    answered_same {D = g.W.Disk} s (commands.Copy name other) old _ (Refused code) (given.No code)
    (copy_refused s name other found.layer code found.got refuses) refl refl refl at at

pub returns-in_err-copies-in-None-clause-sound : goal.returns-in_err-copies-in-None-clause-sound
returns-in_err-copies-in-None-clause-sound g c =
    let p = err_from_is_err_and c.from_residual.result c.from_residual.ensures.1 in
    rw (p.1, p.2) (λ s at. c.in_err-copies-in-None.ensures.sound at.work.records (at_tree {D = g.W.Disk} c.args.self.now s at))

pub returns-in_ok-copies-in-None-clause-goes_on : goal.returns-in_ok-copies-in-None-clause-goes_on
returns-in_ok-copies-in-None-clause-goes_on g c =
    let old = c.args.self.now in
    let b = c.copied_records.new.book in
    goes_both {D = g.W.Disk} old.book b c.place.new.self.book (goes_of {D = g.W.Disk} old.book b c.copied_records.ensures.still.later) c.place.ensures.goes_on

pub returns-in_ok-copies-in-None-clause-sound : goal.returns-in_ok-copies-in-None-clause-sound
returns-in_ok-copies-in-None-clause-sound g c =
    if_err _ _ c.place.result (λ err p s at.
    let old = c.args.self.now in
    let name = c.args.name.now in
    let other = c.args.other.now in
    let b = c.copied_records.new.book in
    let still = c.copied_records.ensures.still in
    let now = later_at {D = g.W.Disk} old b old.catalog s still.later still.told still.free still.changed (g.met.W.Disk.is_consistent b.world) at in
    let mid = with_book {D = g.W.Disk} old b in
    let found = c.in-Some.ensures.some s.work now.work.numbers
    (subst (λ (es : List Entry). IsCatalogOf s.work now.work.numbers es) (sym c.entries.ensures.entries) now.work.catalog) in
    let fresh = c.entries-in-None.ensures.entries in
    let entry = c.new_entry-entry.result in
    let made = c.new_entry-entry.ensures in
    let kind = made.kind ∙ found.kinded in
    let few = subst (λ (es : List Entry). length es < 255) c.entries-2.ensures.entries (c.in-None.ensures.few refl) in
    let others = subst (λ (es : List Entry). All (λ f. f.name ≢ other) es) c.entries-2.ensures.entries (c.in-None.ensures.new refl) in
    let apart = subst (λ (n : List ℕ). All (λ (f : Entry). f.name ≢ n) old.catalog) (sym made.name) others in
    let unused = made.unused s.work now.work.numbers
    (subst (λ (es : List Entry). IsCatalogOf s.work now.work.numbers es) (sym fresh) now.work.catalog) now.work.spelled.numbering in
    let copies = c.deref.ensures.value ∙ c.in_ok-copies-in-None.ensures.list now.work.records
    (tree_before {D = g.W.Disk} old.book b still now.work.records (at_tree {D = g.W.Disk} mid s now)) in
    let plan = λ (all : List Record) (listed : BeginsWithEntry entry c.deref.result.now all).
    copy_plan {D = g.W.Disk} mid s now name c.in-Some.number found.layer found.got found.numbered entry kind
    (ap is_name made.name ∙ made.named) few apart made.number.0 made.number.1 unused
    all all refl (listed.0, listed.1 ∙ ap (λ (rs : List Record). listed.0 ∷ rs) copies, listed.2) in
    p s now found.layer plan) c.place.ensures.sound

pub returns-in_ok-copies-in-None-clause-answer : goal.returns-in_ok-copies-in-None-clause-answer
returns-in_ok-copies-in-None-clause-answer g c =
    if_ok _ _ c.place.result (λ reply p s at.
    let old = c.args.self.now in
    let name = c.args.name.now in
    let other = c.args.other.now in
    let b = c.copied_records.new.book in
    let still = c.copied_records.ensures.still in
    let now = later_at {D = g.W.Disk} old b old.catalog s still.later still.told still.free still.changed (g.met.W.Disk.is_consistent b.world) at in
    let mid = with_book {D = g.W.Disk} old b in
    let found = c.in-Some.ensures.some s.work now.work.numbers
    (subst (λ (es : List Entry). IsCatalogOf s.work now.work.numbers es) (sym c.entries.ensures.entries) now.work.catalog) in
    let fresh = c.entries-in-None.ensures.entries in
    let entry = c.new_entry-entry.result in
    let made = c.new_entry-entry.ensures in
    let kind = made.kind ∙ found.kinded in
    let few = subst (λ (es : List Entry). length es < 255) c.entries-2.ensures.entries (c.in-None.ensures.few refl) in
    let others = subst (λ (es : List Entry). All (λ f. f.name ≢ other) es) c.entries-2.ensures.entries (c.in-None.ensures.new refl) in
    let apart = subst (λ (n : List ℕ). All (λ (f : Entry). f.name ≢ n) old.catalog) (sym made.name) others in
    let unused = made.unused s.work now.work.numbers
    (subst (λ (es : List Entry). IsCatalogOf s.work now.work.numbers es) (sym fresh) now.work.catalog) now.work.spelled.numbering in
    let copies = c.deref.ensures.value ∙ c.in_ok-copies-in-None.ensures.list now.work.records
    (tree_before {D = g.W.Disk} old.book b still now.work.records (at_tree {D = g.W.Disk} mid s now)) in
    let plan = λ (all : List Record) (listed : BeginsWithEntry entry c.deref.result.now all).
    copy_plan {D = g.W.Disk} mid s now name c.in-Some.number found.layer found.got found.numbered entry kind
    (ap is_name made.name ∙ made.named) few apart made.number.0 made.number.1 unused
    all all refl (listed.0, listed.1 ∙ ap (λ (rs : List Record). listed.0 ∷ rs) copies, listed.2) in
    let passes = c.in-None.ensures.passes refl s now.work.numbers
    (subst (λ (es : List Entry). IsCatalogOf s.work now.work.numbers es) (sym c.entries-2.ensures.entries) now.work.catalog) in
    let by =
    subst (λ (n : List ℕ). AnsweredBy {D = g.W.Disk} s (layer_placed s n found.layer) mid c.place.new.self reply) made.name (p s now found.layer kind plan) in
    copy_answer {D = g.W.Disk} old mid c.place.new.self s name other found.layer reply found.got passes.0 passes.1 refl by) c.place.ensures.placed

pub returns-in_ok-copies-in-None-clause-cause : goal.returns-in_ok-copies-in-None-clause-cause
returns-in_ok-copies-in-None-clause-cause g c = cause_then c.copied_records.ensures.cause c.place.ensures.cause
