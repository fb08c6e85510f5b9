use Rattle.std.proofs.Common.{◌≡◌, ◌≤◌, length}
use Rattle.quilt_words.specs.Items.{items_of}
use Rattle.quilt_replies.specs.Answers.{State}
use Rattle.quilt_map.specs.Sessions.{session_world, level_of, changes_of, IsAt, IsSessionReady}
use Rattle.quilt_top.specs.Answered.{ItemsAnswered}
use Rattle.quilt_top.proofs.text_run.answer_items.Given as goal

abbrev pub invariant-items : goal.invariant-items
invariant-items g l = record {
  ready : IsSessionReady l.session;
  door : g.W.Disk.door (session_world l.session) ≡ g.W.Disk.door (session_world l.initial.session);
  faults : g.W.Disk.faults (session_world l.initial.session) ≤ g.W.Disk.faults (session_world l.session);
  level : l.lines.level ≡ l.initial.lines.level;
  same : level_of l.session ≡ level_of l.initial.session;
  done : (s : State) → IsAt l.initial.session s → (now : State) × IsAt l.session now
      × ItemsAnswered l.ended l.initial.lines.level l.so_far l.all_done s now (changes_of l.initial.session) (changes_of l.session)
      l.initial.lines.rest l.lines.rest (g.W.Disk.told (session_world l.initial.session)) (g.W.Disk.told (session_world l.session));
}

abbrev pub decreases-items : goal.decreases-items
decreases-items g l = length (items_of l.lines.level l.lines.rest)
