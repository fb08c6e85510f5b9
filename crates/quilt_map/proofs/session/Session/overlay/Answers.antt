use Rattle.std.proofs.Common.{refl}
use Rattle.quilt_replies.specs.Answers.{Refused}
use Rattle.quilt_map.specs.Overlaying.{overlay_command}
use Rattle.quilt_replies.specs.declared.reply.Reply.TheVariants as given
use Rattle.quilt_map.proofs.answers.Answered.{catalog_as}
use Rattle.quilt_map.proofs.answers.Asked.{if_ok, if_err}
use Rattle.quilt_map.proofs.states.ChangeSteps.{goes_here}
use Rattle.quilt_map.proofs.answers.Outcomes.{answered_same}
use Rattle.quilt_map.proofs.layers.Overlays.{overlay_forward, overlay_refused, overlay_taken, overlay_answered}
use Rattle.quilt_map.proofs.plans.PaintPlans.{region_in}
use Rattle.quilt_map.proofs.session.Session.overlay.Goals as goal

pub returns-in-Err-clause-answer : goal.returns-in-Err-clause-answer
returns-in-Err-clause-answer g c = λ s at.
    let old = c.args.self.now in
    let a = c.args.a.now in
    let b = c.args.b.now in
    let into = c.args.into.now in
    let first = c.in-Err.ensures.refused s at.work.numbers (catalog_as {D = g.W.Disk} old s at c.entries.result.now c.entries.ensures.entries) in
    answered_same {D = g.W.Disk} s (overlay_command c.args.op a b into) old old (Refused c.in-Err.code) (given.No c.in-Err.code)
    (overlay_refused s c.args.op a b into c.in-Err.code first) (overlay_forward c.args.op a b into) refl refl at at

pub returns-in-Err-clause-goes_on : goal.returns-in-Err-clause-goes_on
returns-in-Err-clause-goes_on g c = goes_here {D = g.W.Disk} c.args.self.now.book

pub returns-in-Some-clause-answer : goal.returns-in-Some-clause-answer
returns-in-Some-clause-answer g c = λ s at.
    let old = c.args.self.now in
    let a = c.args.a.now in
    let b = c.args.b.now in
    let into = c.args.into.now in
    let layers = catalog_as {D = g.W.Disk} old s at c.entries.result.now c.entries.ensures.entries in
    let below = c.in-Ok.ensures.first s.work at.work.numbers layers in
    let above = c.in-Ok.ensures.second s.work at.work.numbers layers in
    let catalog = catalog_as {D = g.W.Disk} old s at c.entries-in-Ok.result.now c.entries-in-Ok.ensures.entries in
    answered_same {D = g.W.Disk} s (overlay_command c.args.op a b into) old old (Refused c.in-Some.code) (given.No c.in-Some.code)
    (overlay_taken s c.args.op a b into below.grid above.grid below.got above.got c.in-Some.code
    (c.in-Some.ensures.refuses s at.work.numbers catalog)) (overlay_forward c.args.op a b into) refl refl at at

pub returns-in-Some-clause-goes_on : goal.returns-in-Some-clause-goes_on
returns-in-Some-clause-goes_on g c = goes_here {D = g.W.Disk} c.args.self.now.book

pub returns-in-None-clause-answer : goal.returns-in-None-clause-answer
returns-in-None-clause-answer g c =
    if_ok _ _ c.make_overlay.result (λ reply p s at.
    let old = c.args.self.now in
    let a = c.args.a.now in
    let b = c.args.b.now in
    let into = c.args.into.now in
    let below =
    region_in s.work at.work.numbers c.entries.result.now old.catalog a c.in-Ok.first c.entries.ensures.entries at.work.catalog c.in-Ok.ensures.first in
    let above =
    region_in s.work at.work.numbers c.entries.result.now old.catalog b c.in-Ok.second c.entries.ensures.entries at.work.catalog c.in-Ok.ensures.second in
    let passes =
    c.in-None.ensures.passes refl s at.work.numbers (catalog_as {D = g.W.Disk} old s at c.entries-in-Ok.result.now c.entries-in-Ok.ensures.entries) in
    overlay_answered s c.args.op a b into below.0 above.0 below.1.got above.1.got {D = g.W.Disk} old c.make_overlay.new.self reply passes
    (p s at a b below.0 above.0 below.1 above.1)) c.make_overlay.ensures.made

pub returns-in-None-clause-sound : goal.returns-in-None-clause-sound
returns-in-None-clause-sound g c =
    if_err _ _ c.make_overlay.result (λ e p s at.
    let old = c.args.self.now in
    let a = c.args.a.now in
    let b = c.args.b.now in
    let below =
    region_in s.work at.work.numbers c.entries.result.now old.catalog a c.in-Ok.first c.entries.ensures.entries at.work.catalog c.in-Ok.ensures.first in
    let above =
    region_in s.work at.work.numbers c.entries.result.now old.catalog b c.in-Ok.second c.entries.ensures.entries at.work.catalog c.in-Ok.ensures.second in
    p s at a b below.0 above.0 below.1 above.1) c.make_overlay.ensures.sound
