use Rattle.std.proofs.Common.{Some, subst}
use Rattle.std.proofs.lemmas.Result.{err_from_is_err_and}
use Rattle.quilt_map.specs.Planning.{HasChanged}
use Rattle.quilt_map.proofs.plans.Amends.{planned_as, entries_as, amended_answer}
use Rattle.quilt_map.proofs.answers.Placing.{full_answer}
use Rattle.quilt_map.proofs.states.ChangeSteps.{goes_here}
use Rattle.quilt_map.proofs.session.Session.amend.Goals as goal

pub returns-in_default-clause-goes_on : goal.returns-in_default-clause-goes_on
returns-in_default-clause-goes_on g c = goes_here {D = g.W.Disk} c.args.self.now.book

pub returns-in_err-change-clause-sound : goal.returns-in_err-change-clause-sound
returns-in_err-change-clause-sound g c =
    let p = err_from_is_err_and c.from_residual.result c.from_residual.ensures.1 in
    rw (p.1, p.2) (λ s at name number layer is.
    c.in_err-change.ensures.sound s at name number (Some layer)
    (planned_as s at.work.numbers c.args.self.now.catalog name number layer c.args.edits.now.remove c.args.edits.now.add is c.records.result.now
    c.records-2.result.now c.records.ensures c.records-2.ensures))

pub returns-clause-amended : goal.returns-clause-amended
returns-clause-amended g c = λ s at name number layer is.
    let old = c.args.self.now in
    let new = c.change.new.self in
    let plan = planned_as s at.work.numbers old.catalog name number layer c.args.edits.now.remove c.args.edits.now.add is c.records.result.now
    c.records-2.result.now c.records.ensures c.records-2.ensures in
    let has = c.in_ok-change.ensures.changed s at name number (Some layer) new.catalog plan
    (entries_as s at.work.numbers name number layer old.catalog new.catalog c.change.ensures.catalogs.0 is.catalog) in
    amended_answer {D = g.W.Disk} old new s name layer c.in-Ok.text
    (subst (λ b. HasChanged {D = g.W.Disk} b old new s name (Some layer) new.catalog) c.if-not-branch.false has) c.in-Ok.ensures

pub returns-then-not-branch-clause-amended : goal.returns-then-not-branch-clause-amended
returns-then-not-branch-clause-amended g c = λ s at name number layer is.
    let old = c.args.self.now in
    let new = c.change.new.self in
    let plan = planned_as s at.work.numbers old.catalog name number layer c.args.edits.now.remove c.args.edits.now.add is c.records.result.now
    c.records-2.result.now c.records.ensures c.records-2.ensures in
    let has = c.in_ok-change.ensures.changed s at name number (Some layer) old.catalog plan is.catalog in
    full_answer {D = g.W.Disk} old new s name layer at
    (subst (λ b. HasChanged {D = g.W.Disk} b old new s name (Some layer) old.catalog) c.if-not-branch.true has)
