use Rattle.std.proofs.Common.{◌≡◌, true, false, is_some, refl, ◌∙◌, ap}
use Rattle.quilt_blocks.specs.Raster.{Raster}
use Rattle.quilt_map.proofs.plans.Planned.{some_of}
use Rattle.quilt_node.specs.declared.head.Head.{Head}
use Rattle.quilt_types.specs.declared.code.Code.TheVariants as no
use Rattle.quilt_words.specs.declared.command.Command.TheVariants as commands
use Rattle.quilt_replies.specs.Answers.{Refused}
use Rattle.quilt_map.proofs.answers.Answered.{catalog_as, level_is}
use Rattle.quilt_types.specs.Polygons.{filled_rings}
use Rattle.quilt_map.proofs.answers.Asked.{if_ok, if_err}
use Rattle.quilt_map.proofs.answers.PastQuota.{past_refused}
use Rattle.quilt_map.proofs.states.ChangeSteps.{goes_here, at_most}
use Rattle.quilt_map.proofs.layers.Fillings.{leave_at, polygon_refusal, polygon_missing, polygon_outside, filled_level, filled_fits, polygon_answered}
use Rattle.quilt_map.proofs.answers.Outcomes.{answered_same}
use Rattle.quilt_map.proofs.session.Session.polygon.Goals as goal

pub returns-in-Some-clause-answer : goal.returns-in-Some-clause-answer
returns-in-Some-clause-answer g c = λ s at low.
    let old = c.args.self.now in
    let name = c.args.name.now in
    let code = c.in-Some.code in
    let rings = c.args.rings.now in
    let catalog = catalog_as {D = g.W.Disk} old s at c.entries.result.now c.entries.ensures.entries in
    let is = polygon_refusal s name c.args.c rings code (c.in-Some.ensures.refuses s at.work.numbers catalog) in
    answered_same {D = g.W.Disk} s (commands.Polygon name c.args.c rings) old old (Refused code) _ is refl refl refl at at

pub returns-in-Some-clause-goes_on : goal.returns-in-Some-clause-goes_on
returns-in-Some-clause-goes_on g c = goes_here {D = g.W.Disk} c.args.self.now.book

pub returns-in_default-rings-clause-answer : goal.returns-in_default-rings-clause-answer
returns-in_default-rings-clause-answer g c = λ s at low.
    let old = c.args.self.now in
    let name = c.args.name.now in
    let rings = c.args.rings.now in
    let catalog = catalog_as {D = g.W.Disk} old s at c.entries.result.now c.entries.ensures.entries in
    let is = polygon_missing s name c.args.c (c.in_default.ensures.passes refl s at.work.numbers catalog) rings c.in_default-rings.is in
    answered_same {D = g.W.Disk} s (commands.Polygon name c.args.c rings) old old (Refused no.Rows) _ is refl refl refl at at

pub returns-in_default-rings-clause-goes_on : goal.returns-in_default-rings-clause-goes_on
returns-in_default-rings-clause-goes_on g c = goes_here {D = g.W.Disk} c.args.self.now.book

pub returns-then-leave_square-clause-answer : goal.returns-then-leave_square-clause-answer
returns-then-leave_square-clause-answer g c = λ s at low.
    let old = c.args.self.now in
    let name = c.args.name.now in
    let rings = c.in-Some-rings.rings in
    let catalog = catalog_as {D = g.W.Disk} old s at c.entries.result.now c.entries.ensures.entries in
    let level = ap (λ (h : Head). h.level) c.head-level.ensures.work ∙ level_is {D = g.W.Disk} old s at in
    let out = leave_at c.head-level.result.level s.last.level rings c.leave_square.result true level
    (at_most {D = g.W.Disk} old s at) c.leave_square.ensures c.if-leave_square.true in
    let is = polygon_outside s name c.args.c (c.in_default.ensures.passes refl s at.work.numbers catalog) c.args.rings.now rings c.in-Some-rings.is out in
    answered_same {D = g.W.Disk} s (commands.Polygon name c.args.c c.args.rings.now) old old (Refused no.Outside) _ is refl refl refl at at

pub returns-then-leave_square-clause-goes_on : goal.returns-then-leave_square-clause-goes_on
returns-then-leave_square-clause-goes_on g c = goes_here {D = g.W.Disk} c.args.self.now.book

pub returns-in-Err-clause-goes_on : goal.returns-in-Err-clause-goes_on
returns-in-Err-clause-goes_on g c = goes_here {D = g.W.Disk} c.args.self.now.book

pub returns-in-Ok-None-clause-goes_on : goal.returns-in-Ok-None-clause-goes_on
returns-in-Ok-None-clause-goes_on g c = goes_here {D = g.W.Disk} c.args.self.now.book

pub returns-in-Ok-None-clause-answer : goal.returns-in-Ok-None-clause-answer
returns-in-Ok-None-clause-answer g c = λ s at low.
    let old = c.args.self.now in
    let name = c.args.name.now in
    let rings = c.in-Some-rings.rings in
    let n = c.head-level.result.level in
    let catalog = catalog_as {D = g.W.Disk} old s at c.entries.result.now c.entries.ensures.entries in
    let level = ap (λ (h : Head). h.level) c.head-level.ensures.work ∙ level_is {D = g.W.Disk} old s at in
    let inside =
    leave_at n s.last.level rings c.leave_square.result false level (at_most {D = g.W.Disk} old s at) c.leave_square.ensures c.if-leave_square.false in
    let filled = filled_rings n rings c.args.c.0 in
    polygon_answered {D = g.W.Disk} old old s name c.args.c c.args.rings.now rings (record { level = n; grid = filled }) n _ c.in-Some-rings.is refl level
    (c.in_default.ensures.passes refl s at.work.numbers catalog) inside
    (past_refused {D = g.W.Disk} old s at name filled n c.quota_of-most.result c.quota_of-most.ensures level (c.in-Ok-None.ensures.none.0 (ap is_some c.in-Ok-None.field-0-is)))

pub returns-in-Ok-Some-clause-answer : goal.returns-in-Ok-Some-clause-answer
returns-in-Ok-Some-clause-answer g c =
    if_ok _ _ c.make_region.result (λ reply p s at low.
    let old = c.args.self.now in
    let name = c.args.name.now in
    let rings = c.in-Some-rings.rings in
    let list = c.in-Ok-Some.list in
    let n = c.head-level.result.level in
    let is =
    some_of (λ (l : Raster). l ≡ record { level = n; grid = filled_rings n rings c.args.c.0 }) c.in-Ok-Some.field-0 list c.in-Ok-Some.field-0-is
    c.in-Ok-Some.ensures.some in
    let catalog = catalog_as {D = g.W.Disk} old s at c.entries.result.now c.entries.ensures.entries in
    let level = ap (λ (h : Head). h.level) c.head-level.ensures.work ∙ level_is {D = g.W.Disk} old s at in
    let inside =
    leave_at n s.last.level rings c.leave_square.result false level (at_most {D = g.W.Disk} old s at) c.leave_square.ensures c.if-leave_square.false in
    polygon_answered {D = g.W.Disk} old c.make_region.new.self s name c.args.c c.args.rings.now rings list n reply c.in-Some-rings.is is level
    (c.in_default.ensures.passes refl s at.work.numbers catalog) inside
    (p s at (filled_level s c.args.c rings list n is level) (filled_fits s c.args.c rings list n is level low)))
    c.make_region.ensures.made

pub returns-in-Ok-Some-clause-sound : goal.returns-in-Ok-Some-clause-sound
returns-in-Ok-Some-clause-sound g c =
    if_err _ _ c.make_region.result (λ e p s at low.
    let rings = c.in-Some-rings.rings in
    let list = c.in-Ok-Some.list in
    let n = c.head-level.result.level in
    let is =
    some_of (λ (l : Raster). l ≡ record { level = n; grid = filled_rings n rings c.args.c.0 }) c.in-Ok-Some.field-0 list c.in-Ok-Some.field-0-is
    c.in-Ok-Some.ensures.some in
    let level = ap (λ (h : Head). h.level) c.head-level.ensures.work ∙ level_is {D = g.W.Disk} c.args.self.now s at in
    p s at (filled_level s c.args.c rings list n is level) (filled_fits s c.args.c rings list n is level low))
    c.make_region.ensures.sound
