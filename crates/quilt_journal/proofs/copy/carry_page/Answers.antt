use Rattle.std.proofs.Common.{◌+◌, sym}
use Rattle.quilt_journal.proofs.CopySteps.{goes_carried}
use Rattle.quilt_journal.proofs.copy.carry_page.Goals as goal

pub returns-in-Some-clause-wrote : goal.returns-in-Some-clause-wrote
returns-in-Some-clause-wrote g c =
    goes_carried (3 + c.args.page) (3 + c.args.pages + c.args.page) c.in-Some.bytes.now c.write_page.result _ _
    (c.requires.held c.in-Some.bytes.now (sym c.in-Some.ensures)) (rw c.home_at.ensures at c.write_page.ensures.wrote) c.write_page.ensures.counts
