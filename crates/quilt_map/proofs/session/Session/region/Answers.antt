use Rattle.std.proofs.Common.{refl, ◌∙◌, ap}
use Rattle.quilt_node.specs.declared.head.Head.{Head}
use Rattle.quilt_words.specs.declared.command.Command.TheVariants as commands
use Rattle.quilt_replies.specs.Answers.{Refused}
use Rattle.quilt_replies.specs.declared.reply.Reply.TheVariants as given
use Rattle.quilt_map.proofs.answers.Answered.{catalog_as, level_is}
use Rattle.quilt_map.proofs.answers.Asked.{if_ok, if_err}
use Rattle.quilt_map.proofs.states.ChangeSteps.{goes_here}
use Rattle.quilt_map.proofs.answers.Outcomes.{answered_same}
use Rattle.quilt_map.proofs.plans.Uniforms.{list_level, list_fits, region_refusal, region_answered}
use Rattle.quilt_map.proofs.session.Session.region.Goals as goal

pub returns-in-Some-clause-answer : goal.returns-in-Some-clause-answer
returns-in-Some-clause-answer g c = λ s at lt.
    let old = c.args.self.now in
    let name = c.args.name.now in
    let code = c.in-Some.code in
    let catalog = catalog_as {D = g.W.Disk} old s at c.entries.result.now c.entries.ensures.entries in
    answered_same {D = g.W.Disk} s (commands.Region name c.args.c) old old (Refused code) (given.No code)
    (region_refusal s name c.args.c code (c.in-Some.ensures.refuses s at.work.numbers catalog)) refl refl refl at at

pub returns-in-Some-clause-goes_on : goal.returns-in-Some-clause-goes_on
returns-in-Some-clause-goes_on g c = goes_here {D = g.W.Disk} c.args.self.now.book

pub returns-in-Err-clause-goes_on : goal.returns-in-Err-clause-goes_on
returns-in-Err-clause-goes_on g c = goes_here {D = g.W.Disk} c.args.self.now.book

pub returns-in-Ok-clause-answer : goal.returns-in-Ok-clause-answer
returns-in-Ok-clause-answer g c =
    if_ok _ _ c.make_region.result (λ reply p s at lt.
    let old = c.args.self.now in
    let level = ap (λ (h : Head). h.level) c.head-level.ensures.work ∙ level_is {D = g.W.Disk} old s at in
    let catalog = catalog_as {D = g.W.Disk} old s at c.entries.result.now c.entries.ensures.entries in
    let passes = c.in_default.ensures.passes refl s at.work.numbers catalog in
    let n = c.head-level.result.level in
    region_answered {D = g.W.Disk} old c.make_region.new.self s c.args.name.now c.args.c c.in-Ok.list n reply c.in-Ok.ensures level passes
    (p s at (list_level s c.args.c c.in-Ok.list n c.in-Ok.ensures level) (list_fits s c.args.c c.in-Ok.list n c.in-Ok.ensures level lt)))
    c.make_region.ensures.made

pub returns-in-Ok-clause-sound : goal.returns-in-Ok-clause-sound
returns-in-Ok-clause-sound g c =
    if_err _ _ c.make_region.result (λ e p s at lt.
    let level = ap (λ (h : Head). h.level) c.head-level.ensures.work ∙ level_is {D = g.W.Disk} c.args.self.now s at in
    let n = c.head-level.result.level in
    p s at (list_level s c.args.c c.in-Ok.list n c.in-Ok.ensures level) (list_fits s c.args.c c.in-Ok.list n c.in-Ok.ensures level lt))
    c.make_region.ensures.sound
