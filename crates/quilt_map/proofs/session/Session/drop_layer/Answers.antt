use Rattle.std.proofs.Common.{◌≡◌, List, Bool, None, refl, sym, ◌∙◌, ap, subst}
use Rattle.std.proofs.lemmas.Result.{err_from_is_err_and}
use Rattle.quilt_types.specs.Layers.{Map}
use Rattle.quilt_record.specs.declared.entry.Entry.{Entry}
use Rattle.quilt_record.specs.Records.{Numbering}
use Rattle.quilt_spell.specs.Catalogued.{IsCatalogOf}
use Rattle.quilt_words.specs.declared.command.Command.TheVariants as commands
use Rattle.quilt_replies.specs.Answers.{Refused}
use Rattle.quilt_types.specs.declared.code.Code.TheVariants as no
use Rattle.quilt_map.specs.Commanding.{Answered}
use Rattle.quilt_map.specs.Lookups.{IsLayerAt}
use Rattle.quilt_map.specs.Planning.{HasChanged}
use Rattle.std.specs.List.{remove}
use Rattle.quilt_replies.specs.declared.reply.Reply.TheVariants as given
use Rattle.quilt_map.proofs.states.ChangeSteps.{goes_here}
use Rattle.quilt_map.proofs.states.Going.{goes_of, goes_both}
use Rattle.quilt_map.proofs.states.Moving.{later_at, with_book}
use Rattle.quilt_map.proofs.answers.Outcomes.{answered_same}
use Rattle.quilt_map.proofs.plans.Copies.{drop_unknown, entry_is, entry_goes, tree_before, at_tree, number_least, drop_plan, never_full, drop_answer}
use Rattle.quilt_map.proofs.session.Session.drop_layer.Goals as goal

pub returns-in_default-clause-goes_on : goal.returns-in_default-clause-goes_on
returns-in_default-clause-goes_on g c = goes_here {D = g.W.Disk} c.args.self.now.book

pub returns-in_default-done_text-clause-goes_on : goal.returns-in_default-done_text-clause-goes_on
returns-in_default-done_text-clause-goes_on g c = goes_here {D = g.W.Disk} c.args.self.now.book

pub returns-in_default-clause-answer : goal.returns-in_default-clause-answer
returns-in_default-clause-answer g c = λ s at.
    let old = c.args.self.now in
    let name = c.args.name.now in
    let catalog = subst (λ (es : List Entry). IsCatalogOf s.work at.work.numbers es) (sym c.entries.ensures.entries) at.work.catalog in
    answered_same {D = g.W.Disk} s (commands.Drop name) old _ (Refused no.Unknown) (given.No no.Unknown)
    (drop_unknown s name (c.in_default.ensures.none refl s.work at.work.numbers catalog)) refl refl refl at at

pub returns-in_err-all-clause-sound : goal.returns-in_err-all-clause-sound
returns-in_err-all-clause-sound g c =
    let p = err_from_is_err_and c.from_residual.result c.from_residual.ensures.1 in
    rw (p.1, p.2) (λ s at.
    let old = c.args.self.now in
    let name = c.args.name.now in
    let find = subst (λ (es : List Entry). (layers : Map) (numbers : Numbering) → IsCatalogOf layers numbers es
    → IsLayerAt layers numbers es name c.in-Some.i) c.entries.ensures.entries c.in-Some.ensures.some in
    let found = find s.work at.work.numbers at.work.catalog in
    let x = c.index-entries-i.result in
    let is = entry_is s.work at.work.numbers old.catalog c.entries-2.result.now name c.in-Some.i found c.entries-2.ensures.entries x
    c.index-entries-i.is c.copy.result c.copy.ensures in
    c.in_err-all.ensures.sound at.work.records
    (number_least {D = g.W.Disk} old s at name found.layer found.got (record { number = x.number; name = c.copy.result; kind = x.kind }) is)
    (at_tree {D = g.W.Disk} old s at))

pub returns-in_err-change-clause-goes_on : goal.returns-in_err-change-clause-goes_on
returns-in_err-change-clause-goes_on g c =
    let old = c.args.self.now in
    let b = c.layer_records.new.book in
    goes_both {D = g.W.Disk} old.book b c.change.new.self.book (goes_of {D = g.W.Disk} old.book b c.layer_records.ensures.still.later) c.change.ensures.goes_on

pub returns-clause-goes_on : goal.returns-clause-goes_on
returns-clause-goes_on g c =
    let old = c.args.self.now in
    let b = c.layer_records.new.book in
    goes_both {D = g.W.Disk} old.book b c.change.new.self.book (goes_of {D = g.W.Disk} old.book b c.layer_records.ensures.still.later) c.change.ensures.goes_on

pub returns-then-not-branch-clause-goes_on : goal.returns-then-not-branch-clause-goes_on
returns-then-not-branch-clause-goes_on g c =
    let old = c.args.self.now in
    let b = c.layer_records.new.book in
    goes_both {D = g.W.Disk} old.book b c.change.new.self.book (goes_of {D = g.W.Disk} old.book b c.layer_records.ensures.still.later) c.change.ensures.goes_on

pub returns-in_err-change-clause-sound : goal.returns-in_err-change-clause-sound
returns-in_err-change-clause-sound g c =
    let p = err_from_is_err_and c.from_residual-in_err-change.result c.from_residual-in_err-change.ensures.1 in
    rw (p.1, p.2) (λ s at.
    let old = c.args.self.now in
    let name = c.args.name.now in
    let b = c.layer_records.new.book in
    let still = c.layer_records.ensures.still in
    let find = subst (λ (es : List Entry). (layers : Map) (numbers : Numbering) → IsCatalogOf layers numbers es
    → IsLayerAt layers numbers es name c.in-Some.i) c.entries.ensures.entries c.in-Some.ensures.some in
    let now = later_at {D = g.W.Disk} old b old.catalog s still.later still.told still.free still.changed (g.met.W.Disk.is_consistent b.world) at in
    let mid = with_book {D = g.W.Disk} old b in
    let found = find s.work now.work.numbers now.work.catalog in
    let x = c.index-entries-i.result in
    let e : Entry = record { number = x.number; name = c.copy.result; kind = x.kind } in
    let is = entry_is s.work now.work.numbers old.catalog c.entries-2.result.now name c.in-Some.i found c.entries-2.ensures.entries x
    c.index-entries-i.is c.copy.result c.copy.ensures in
    let listed =
    c.in_ok-all.ensures.list now.work.records (tree_before {D = g.W.Disk} old.book b still now.work.records (at_tree {D = g.W.Disk} mid s now)) in
    let plan = drop_plan {D = g.W.Disk} mid s now name found.layer found.got e is c.in_ok-all.all c.records.result.now c.records.ensures listed in
    c.in_err-change.ensures.sound s now name x.number None plan)

pub returns-then-not-branch-clause-sound : goal.returns-then-not-branch-clause-sound
returns-then-not-branch-clause-sound g c = λ s at.
    let old = c.args.self.now in
    let name = c.args.name.now in
    let b = c.layer_records.new.book in
    let still = c.layer_records.ensures.still in
    let find = subst (λ (es : List Entry). (layers : Map) (numbers : Numbering) → IsCatalogOf layers numbers es
    → IsLayerAt layers numbers es name c.in-Some.i) c.entries.ensures.entries c.in-Some.ensures.some in
    let now = later_at {D = g.W.Disk} old b old.catalog s still.later still.told still.free still.changed (g.met.W.Disk.is_consistent b.world) at in
    let mid = with_book {D = g.W.Disk} old b in
    let found = find s.work now.work.numbers now.work.catalog in
    let x = c.index-entries-i.result in
    let e : Entry = record { number = x.number; name = c.copy.result; kind = x.kind } in
    let is = entry_is s.work now.work.numbers old.catalog c.entries-2.result.now name c.in-Some.i found c.entries-2.ensures.entries x
    c.index-entries-i.is c.copy.result c.copy.ensures in
    let listed =
    c.in_ok-all.ensures.list now.work.records (tree_before {D = g.W.Disk} old.book b still now.work.records (at_tree {D = g.W.Disk} mid s now)) in
    let plan = drop_plan {D = g.W.Disk} mid s now name found.layer found.got e is c.in_ok-all.all c.records.result.now c.records.ensures listed in
    let goes = entry_goes s.work now.work.numbers old.catalog name x.number c.in-Some.i now.work.catalog found in
    let has = c.in_ok-change.ensures.changed s now name x.number None (remove old.catalog c.in-Some.i) plan goes in
    absurd (never_full {D = g.W.Disk} mid s now c.change.new.self name x.number c.records.result.now plan
    (subst (λ (d : Bool). HasChanged {D = g.W.Disk} d mid c.change.new.self s name None (remove old.catalog c.in-Some.i)) c.if-not-branch.true has))

pub returns-clause-answer : goal.returns-clause-answer
returns-clause-answer g c = λ s at.
    let old = c.args.self.now in
    let name = c.args.name.now in
    let b = c.layer_records.new.book in
    let still = c.layer_records.ensures.still in
    let find = subst (λ (es : List Entry). (layers : Map) (numbers : Numbering) → IsCatalogOf layers numbers es
    → IsLayerAt layers numbers es name c.in-Some.i) c.entries.ensures.entries c.in-Some.ensures.some in
    let now = later_at {D = g.W.Disk} old b old.catalog s still.later still.told still.free still.changed (g.met.W.Disk.is_consistent b.world) at in
    let mid = with_book {D = g.W.Disk} old b in
    let found = find s.work now.work.numbers now.work.catalog in
    let x = c.index-entries-i.result in
    let e : Entry = record { number = x.number; name = c.copy.result; kind = x.kind } in
    let is = entry_is s.work now.work.numbers old.catalog c.entries-2.result.now name c.in-Some.i found c.entries-2.ensures.entries x
    c.index-entries-i.is c.copy.result c.copy.ensures in
    let listed =
    c.in_ok-all.ensures.list now.work.records (tree_before {D = g.W.Disk} old.book b still now.work.records (at_tree {D = g.W.Disk} mid s now)) in
    let plan = drop_plan {D = g.W.Disk} mid s now name found.layer found.got e is c.in_ok-all.all c.records.result.now c.records.ensures listed in
    let gone : c.remove.new.self ≡ remove old.catalog c.in-Some.i =
    c.remove.ensures ∙ ap (λ (es : List Entry). remove es c.in-Some.i) c.change.ensures.catalogs.0 in
    let goes = entry_goes s.work now.work.numbers old.catalog name x.number c.in-Some.i now.work.catalog found in
    let has = c.in_ok-change.ensures.changed s now name x.number None (remove old.catalog c.in-Some.i) plan goes in
    let done =
    subst (λ (d : Bool). HasChanged {D = g.W.Disk} d mid c.change.new.self s name None (remove old.catalog c.in-Some.i)) c.if-not-branch.false has in
    subst (λ (es : List Entry). Answered {D = g.W.Disk} s (commands.Drop name) old (record c.change.new.self { catalog = es })
    (given.Ok c.in-Ok.text)) (sym gone)
    (drop_answer {D = g.W.Disk} old mid c.change.new.self s name found.layer (remove old.catalog c.in-Some.i) c.in-Ok.text found.got done refl c.in-Ok.ensures)
