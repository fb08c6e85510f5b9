use Rattle.std.proofs.Common.{arith}
use Rattle.quilt_journal_tests.proofs.Opened.{is_open}
use Rattle.quilt_journal_tests.proofs.calls.crashed.Goals as goal

pub crash-requires-clause-open : goal.crash-requires-clause-open
crash-requires-clause-open c = is_open c.args.desk.now.door _ c.args.desk.now.no_pages (omega (arith, c.pages-pages.ensures, c.if-pages-eq0.false))
