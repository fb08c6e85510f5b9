use Rattle.std.proofs.Common.{take}
use Rattle.quilt_desk.proofs.CrashLaws.{LeftBelow}
use Rattle.quilt_desk.proofs.desk.Desk.crash.Given as goal

abbrev pub invariant-loop-page : goal.invariant-loop-page
invariant-loop-page l = LeftBelow l.self.start (take l.events l.self.log.items) l.choice l.image l.page
