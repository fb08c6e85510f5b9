use Rattle.std.proofs.Common.{◌≡◌, ◌≤◌, ◌+◌, length}
use Rattle.quilt_world.specs.Tale.{Goes}
use Rattle.quilt_words.specs.Items.{items_of}
use Rattle.quilt_replies.specs.Answers.{State}
use Rattle.quilt_map.specs.Sessions.{session_world, level_of, IsAt, IsSessionReady}
use Rattle.quilt_top.specs.TextRun.{run_in}
use Rattle.quilt_top.specs.Trying.{text_left, TriesCommands, Tried}
use Rattle.quilt_top.proofs.trial_run.try_items.Given as goal

abbrev pub invariant-items : goal.invariant-items
invariant-items g l = record {
  ready : IsSessionReady l.session;
  door : g.W.Disk.door (session_world l.session) ≡ g.W.Disk.door (session_world l.initial.session);
  faults : g.W.Disk.faults (session_world l.initial.session) ≤ g.W.Disk.faults (session_world l.session);
  level : l.items.lines.level ≡ l.initial.items.lines.level;
  same : level_of l.session ≡ level_of l.initial.session;
  count : l.tally.done + l.tally.refused + length (items_of l.initial.items.lines.level (text_left l.items))
      ≡ length (items_of l.initial.items.lines.level (text_left l.initial.items));
  tries : (s : State) → IsAt l.initial.session s → (now : State) × IsAt l.session now
      × Tried l.initial.items.lines.level (text_left l.initial.items) (items_of l.initial.items.lines.level (text_left l.items)) s now l.tally
      × Goes (TriesCommands (run_in s (items_of l.initial.items.lines.level (text_left l.initial.items)))) (g.W.Disk.told (session_world l.initial.session))
      (g.W.Disk.told (session_world l.session));
}

abbrev pub decreases-items : goal.decreases-items
decreases-items g l = length (items_of l.initial.items.lines.level (text_left l.items))
