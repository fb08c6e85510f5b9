use Rattle.std.proofs.Common.{◌≡◌, ◌≤◌, ◌-◌, length, take}
use Rattle.quilt_world.specs.Added.{AddsOnly, is_of_text}
use Rattle.quilt_world.specs.Tale.{Goes}
use Rattle.quilt_top.specs.Saying.{Says}
use Rattle.quilt_map.specs.Sessions.{session_world, level_of, changes_of, IsAt, IsSessionReady}
use Rattle.quilt_replies.specs.Answers.{State}
use Rattle.quilt_top.proofs.output.put_reply.Given as goal

abbrev pub invariant-loop-done : goal.invariant-loop-done
invariant-loop-done g l = record {
  level : level_of l.session ≡ level_of l.initial.session;
  changes : changes_of l.session ≡ changes_of l.initial.session;
  ready : IsSessionReady l.initial.session → IsSessionReady l.session;
  at : (s : State) → IsAt l.initial.session s → IsAt l.session s;
  within : l.done ≤ length l.bytes;
  door : g.W.Disk.door (session_world l.session) ≡ g.W.Disk.door (session_world l.initial.session);
  faults : g.W.Disk.faults (session_world l.initial.session) ≤ g.W.Disk.faults (session_world l.session);
  tale : Goes (Says (take l.done l.bytes)) (g.W.Disk.told (session_world l.initial.session)) (g.W.Disk.told (session_world l.session));
  text : Goes (AddsOnly is_of_text) (g.W.Disk.told (session_world l.initial.session)) (g.W.Disk.told (session_world l.session));
}

abbrev pub decreases-loop-done : goal.decreases-loop-done
decreases-loop-done g l = length l.bytes - l.done
