use Rattle.quilt_btree.proofs.stores.Leaves.{edits_on, edits_more, edits_err}
use Rattle.quilt_btree.proofs.writes.write_both.Goals as goal

pub returns-in_err-write_page-clause-left : goal.returns-in_err-write_page-clause-left
returns-in_err-write_page-clause-left g c = edits_more _ 1 0 (edits_err _ c.from_residual.ensures.1 c.in_err-write_page.ensures.left)

pub returns-clause-left : goal.returns-clause-left
returns-clause-left g c = edits_on _ g.met.S.PageStore.goes_on c.in_ok-write_page.ensures.left c.write_page-2.ensures.left
