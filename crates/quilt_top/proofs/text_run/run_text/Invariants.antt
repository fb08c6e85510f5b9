use Rattle.std.proofs.Common.{◌≡◌, ◌≤◌, ◌-◌, ◌^◌, []}
use Rattle.quilt_world.specs.Tale.{Goes}
use Rattle.quilt_words.specs.Items.{whole_items}
use Rattle.quilt_replies.specs.Answers.{State}
use Rattle.quilt_map.specs.Sessions.{session_world, level_of, changes_of, IsAt, IsSessionReady}
use Rattle.quilt_top.specs.Reading.{ReadSoFar}
use Rattle.quilt_top.proofs.text_run.run_text.Given as goal

abbrev pub invariant-pieces : goal.invariant-pieces
invariant-pieces g l = record {
  few : l.total ≤ 2 ^ 30;
  ready : IsSessionReady l.session;
  door : g.W.Disk.door (session_world l.session) ≡ g.W.Disk.door (session_world l.initial.session);
  faults : g.W.Disk.faults (session_world l.initial.session) ≤ g.W.Disk.faults (session_world l.session);
  level : l.lines.level ≡ level_of l.initial.session;
  same : level_of l.session ≡ level_of l.initial.session;
  none : whole_items (level_of l.initial.session) l.lines.rest ≡ [];
  tale : (s : State) → IsAt l.initial.session s → (now : State) × IsAt l.session now
      × Goes (ReadSoFar (level_of l.initial.session) l.total l.all_done s now (changes_of l.session) l.lines.rest)
      (g.W.Disk.told (session_world l.initial.session)) (g.W.Disk.told (session_world l.session));
}

abbrev pub decreases-pieces : goal.decreases-pieces
decreases-pieces g l = 2 ^ 30 - l.total
