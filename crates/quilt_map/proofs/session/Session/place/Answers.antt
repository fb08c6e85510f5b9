use Rattle.std.proofs.Common.{◌≡◌, Some, List, length, refl, sym, ◌∙◌, ap, subst, arith}
use Rattle.std.proofs.lemmas.Result.{err_from_is_err_and}
use Rattle.quilt_record.specs.declared.entry.Entry.{Entry}
use Rattle.quilt_record.specs.Catalogs.{with_entry}
use Rattle.quilt_spell.specs.Catalogued.{IsCatalogOf, kind_of}
use Rattle.quilt_spell.specs.Changing.{with_layer, with_number}
use Rattle.quilt_map.specs.Asking.{reads_in}
use Rattle.quilt_map.specs.Planning.{HasChanged}
use Rattle.quilt_map.proofs.questions.Costs.{costs_as}
use Rattle.quilt_map.proofs.states.Catalogs.{catalog_comes}
use Rattle.quilt_map.proofs.answers.Placing.{full_answer, placed_answer}
use Rattle.quilt_map.proofs.states.ChangeSteps.{goes_here}
use Rattle.quilt_map.proofs.session.Session.place.Goals as goal

pub returns-in_default-clause-goes_on : goal.returns-in_default-clause-goes_on
returns-in_default-clause-goes_on g c = goes_here {D = g.W.Disk} c.args.self.now.book

pub returns-in_default-listed-clause-goes_on : goal.returns-in_default-listed-clause-goes_on
returns-in_default-listed-clause-goes_on g c = goes_here {D = g.W.Disk} c.args.self.now.book

pub returns-in_err-change-clause-sound : goal.returns-in_err-change-clause-sound
returns-in_err-change-clause-sound g c =
    let p = err_from_is_err_and c.from_residual.result c.from_residual.ensures.1 in
    rw (p.1, p.2) (λ s at layer plans. c.in_err-change.ensures.sound s at c.args.entry.name c.args.entry.number (Some layer)
    (plans c.records.result.now (let l = c.in-Ok-listed.ensures in (l.0, c.records.ensures ∙ l.1, l.2))))

pub returns-clause-placed : goal.returns-clause-placed
returns-clause-placed g c = λ s at layer kind plans.
    let l = c.in-Ok-listed.ensures in
    let plan = plans c.records.result.now (l.0, c.records.ensures ∙ l.1, l.2) in
    let old = c.args.self.now in
    let e = c.args.entry in
    let is : e ≡ record { number = e.number; name = e.name; kind = kind_of layer } = λ i. record { number = e.number; name = e.name; kind = kind i } in
    let comes = catalog_comes s.work at.work.numbers old.catalog at.work.catalog e.name layer e.number e c.requires.new is in
    let now = subst (λ (es : List Entry). IsCatalogOf (with_layer s.work e.name (Some layer)) (with_number at.work.numbers e.name e.number (Some layer)) es)
    (sym (c.insert.ensures ∙ ap (with_entry e) c.change.ensures.catalogs.0)) comes in
    let has = c.in_ok-change.ensures.changed s at e.name e.number (Some layer) c.insert.new.self plan now in
    placed_answer {D = g.W.Disk} old c.change.new.self _ s e.name layer c.insert.new.self c.in-Ok.text
    (subst (λ b. HasChanged {D = g.W.Disk} b old c.change.new.self s e.name (Some layer) c.insert.new.self) c.if-not-branch.false has) refl c.in-Ok.ensures

pub returns-then-not-branch-clause-placed : goal.returns-then-not-branch-clause-placed
returns-then-not-branch-clause-placed g c = λ s at layer kind plans.
    let l = c.in-Ok-listed.ensures in
    let plan = plans c.records.result.now (l.0, c.records.ensures ∙ l.1, l.2) in
    let old = c.args.self.now in
    let e = c.args.entry in
    let is : e ≡ record { number = e.number; name = e.name; kind = kind_of layer } = λ i. record { number = e.number; name = e.name; kind = kind i } in
    let comes = catalog_comes s.work at.work.numbers old.catalog at.work.catalog e.name layer e.number e c.requires.new is in
    let has = c.in_ok-change.ensures.changed s at e.name e.number (Some layer) (with_entry e old.catalog) plan comes in
    full_answer {D = g.W.Disk} old c.change.new.self s e.name layer at
    (subst (λ b. HasChanged {D = g.W.Disk} b old c.change.new.self s e.name (Some layer) (with_entry e old.catalog)) c.if-not-branch.true has)

pub returns-clause-reads : goal.returns-clause-reads
returns-clause-reads g c =
    let all = ap length (c.records.ensures ∙ c.in-Ok-listed.ensures.1) in
    costs_as _ _ (reads_in {D = g.W.Disk} c.args.self.now.book) (reads_in {D = g.W.Disk} c.change.new.self.book) (omega arith) c.in_ok-change.ensures.reads

pub returns-then-not-branch-clause-reads : goal.returns-then-not-branch-clause-reads
returns-then-not-branch-clause-reads g c =
    let all = ap length (c.records.ensures ∙ c.in-Ok-listed.ensures.1) in
    costs_as _ _ (reads_in {D = g.W.Disk} c.args.self.now.book) (reads_in {D = g.W.Disk} c.change.new.self.book) (omega arith) c.in_ok-change.ensures.reads
