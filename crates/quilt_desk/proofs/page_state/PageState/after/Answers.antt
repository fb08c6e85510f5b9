use Rattle.std.proofs.Common.{◌∙◌, ap}
use Rattle.std.proofs.lemmas.List.{take_all}
use Rattle.quilt_world.specs.Disk.{Log}
use Rattle.quilt_desk.specs.declared.page_state.PageState.{PageState}
use Rattle.quilt_desk.specs.PageStates.{page_state_after, state_of}
use Rattle.quilt_desk.proofs.CrashLaws.{state_of-more, whole_at}
use Rattle.quilt_desk.proofs.page_state.PageState.after.Goals as goal

pub loop-event-init : goal.loop-event-init
unfolding state_of
loop-event-init c = c.new-state.ensures

pub loop-event-preserved : goal.loop-event-preserved
loop-event-preserved c =
    c.add.ensures
    ∙ ap (λ (s : PageState). page_state_after c.args.page s c.event-item.result) c.loop-event.invariant
    ∙ state_of-more c.args.page c.args.bytes.now c.args.log.now c.loop-event.event-index c.event-item.result c.loop-event-test.true c.event-item.is

pub returns : goal.returns
returns c = c.loop-event.invariant
    ∙ ap (λ (l : Log). state_of c.args.page c.args.bytes.now l) (take_all c.loop-event.event-index c.args.log.now c.loop-event-test.false)

pub add-requires : goal.add-requires
add-requires c = whole_at c.args.log.now c.loop-event.event-index c.event-item.result c.loop-event-test.true c.event-item.is c.requires
