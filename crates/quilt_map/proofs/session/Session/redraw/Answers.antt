use Rattle.std.proofs.Common.{refl, sym, ◌∙◌}
use Rattle.std.proofs.lemmas.Result.{err_from_is_err_and}
use Rattle.quilt_types.specs.Layers.{Region}
use Rattle.quilt_map.specs.Making.{layer_placed}
use Rattle.quilt_map.proofs.plans.Amends.{mid_at}
use Rattle.quilt_map.proofs.answers.Answered.{has_number}
use Rattle.quilt_map.proofs.answers.Asked.{if_ok, if_err}
use Rattle.quilt_map.proofs.answers.PastQuota.{past_refused}
use Rattle.quilt_map.proofs.states.ChangeSteps.{goes_here, same_level}
use Rattle.quilt_map.proofs.states.Going.{goes_of, goes_both}
use Rattle.quilt_map.proofs.states.Moving.{with_book}
use Rattle.quilt_map.proofs.plans.PaintPlans.{as_region, region_there, mid_amendment}
use Rattle.quilt_map.proofs.answers.Placing.{answered_from}
use Rattle.quilt_map.proofs.states.Causes.{cause_then}
use Rattle.quilt_map.proofs.session.Session.redraw.Goals as goal

pub returns-then-is_past_quota-clause-goes_on : goal.returns-then-is_past_quota-clause-goes_on
returns-then-is_past_quota-clause-goes_on g c = goes_here {D = g.W.Disk} c.args.self.now.book

pub returns-then-is_past_quota-clause-redrawn : goal.returns-then-is_past_quota-clause-redrawn
returns-then-is_past_quota-clause-redrawn g c = λ s at name grid is fits.
    let old = c.args.self.now in
    let list = c.args.list.now in
    past_refused {D = g.W.Disk} old s at name list.grid list.level c.quota_of.result c.quota_of.ensures
    (c.requires.level ∙ sym (same_level {D = g.W.Disk} old s at)) (c.is_past_quota.ensures.0 c.if-is_past_quota.true)

pub returns-in_err-edits-clause-sound : goal.returns-in_err-edits-clause-sound
returns-in_err-edits-clause-sound g c =
    let p = err_from_is_err_and c.from_residual.result c.from_residual.ensures.1 in
    rw (p.1, p.2) (λ s at name grid is fits.
    let old = c.args.self.now in
    c.in_err-edits.ensures.sound grid
    (has_number {D = g.W.Disk} old s at name c.args.number (as_region {D = g.W.Disk} old s at name c.args.number grid is))
    (region_there {D = g.W.Disk} old s at name c.args.number grid is))

pub returns-clause-redrawn : goal.returns-clause-redrawn
returns-clause-redrawn g c =
    if_ok _ _ c.amend.result (λ reply p s at name grid is fits.
    let old = c.args.self.now in
    let book = c.plan_redraw.new.book in
    let still = c.plan_redraw.ensures.still in
    let law = g.met.W.Disk.is_consistent book.world in
    let next = c.args.list.now.grid in
    answered_from {D = g.W.Disk} old (with_book {D = g.W.Disk} old book) c.amend.new.self s (layer_placed s name (Region next)) reply refl
    (p s (mid_at {D = g.W.Disk} old s at book still law) name c.args.number (Region next)
    (mid_amendment {D = g.W.Disk} old s at book still law name c.args.number grid is
    (λ n k. next) fits c.in_ok-edits.edits c.in_ok-edits.ensures.plan))) c.amend.ensures.amended

pub returns-clause-sound : goal.returns-clause-sound
returns-clause-sound g c =
    if_err _ _ c.amend.result (λ e p s at name grid is fits.
    let old = c.args.self.now in
    let book = c.plan_redraw.new.book in
    let still = c.plan_redraw.ensures.still in
    let law = g.met.W.Disk.is_consistent book.world in
    let next = c.args.list.now.grid in
    p s (mid_at {D = g.W.Disk} old s at book still law) name c.args.number (Region next)
    (mid_amendment {D = g.W.Disk} old s at book still law name c.args.number grid is
    (λ n k. next) fits c.in_ok-edits.edits c.in_ok-edits.ensures.plan)) c.amend.ensures.sound

pub returns-clause-goes_on : goal.returns-clause-goes_on
returns-clause-goes_on g c =
    goes_both {D = g.W.Disk} c.args.self.now.book c.plan_redraw.new.book c.amend.new.self.book
    (goes_of {D = g.W.Disk} c.args.self.now.book c.plan_redraw.new.book c.plan_redraw.ensures.still.later) c.amend.ensures.goes_on

pub returns-clause-cause : goal.returns-clause-cause
returns-clause-cause g c = cause_then c.plan_redraw.ensures.cause c.amend.ensures.cause
