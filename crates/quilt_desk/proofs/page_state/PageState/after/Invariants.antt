use Rattle.std.proofs.Common.{◌≡◌, take}
use Rattle.quilt_desk.specs.PageStates.{state_of}
use Rattle.quilt_desk.proofs.page_state.PageState.after.Given as goal

abbrev pub invariant-loop-event : goal.invariant-loop-event
invariant-loop-event l = l.state ≡ state_of l.page l.bytes (take l.event-index l.log)
