use Rattle.std.proofs.Common.{arith}
use Rattle.quilt_journal_tests.proofs.Opened.{is_open}
use Rattle.quilt_journal_tests.proofs.calls.put.Goals as goal

pub put-requires-clause-open : goal.put-requires-clause-open
put-requires-clause-open g c = is_open (g.W.Disk.door c.args.world.now) _ (g.met.W.Disk.no_file c.args.world.now)
    (omega (arith, c.pages.ensures, c.if-pages-eq0.false))
