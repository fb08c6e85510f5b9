use Rattle.std.proofs.Common.{◌≡◌}
use Rattle.std.specs.Option.{IfSome}
use Rattle.quilt_journal.specs.Kept.{IsKept}
use Rattle.quilt_journal_tests.proofs.steps.marks.Given as goal

abbrev pub invariant-loop-i : goal.invariant-loop-i
invariant-loop-i g l = record {
  size : g.D.Disk.size l.disk ≡ g.D.Disk.size l.initial.disk;
  kept : IfSome (g.D.Disk.told l.disk) (IsKept l.journal.state l.journal.pages l.journal.changed);
}
