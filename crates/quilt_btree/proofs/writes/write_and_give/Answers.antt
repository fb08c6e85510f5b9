use Rattle.quilt_btree.proofs.stores.Leaves.{edits_err}
use Rattle.quilt_btree.proofs.writes.write_and_give.Goals as goal

pub returns-in_err-write_page-clause-left : goal.returns-in_err-write_page-clause-left
returns-in_err-write_page-clause-left g c = edits_err _ c.from_residual.ensures.1 c.in_err-write_page.ensures.left
