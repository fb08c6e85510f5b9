use Rattle.quilt_btree.proofs.stores.Leaves.{page_moved, edits_on, edits_err, edits_ok}
use Rattle.quilt_btree.proofs.split.write_new.Goals as goal

pub returns-in_err-write_page-clause-left : goal.returns-in_err-write_page-clause-left
returns-in_err-write_page-clause-left g c =
    edits_err _ c.from_residual.ensures.1
    (edits_on _ g.met.S.PageStore.goes_on (page_moved g.S.PageStore c.take_page-new.ensures.later c.take_page-new.ensures.size c.take_page-new.ensures.faults c.take_page-new.ensures.reads c.take_page-new.ensures.changed) c.in_err-write_page.ensures.left)

pub returns-clause-left : goal.returns-clause-left
returns-clause-left g c =
    edits_ok _ _ (edits_on _ g.met.S.PageStore.goes_on (page_moved g.S.PageStore c.take_page-new.ensures.later c.take_page-new.ensures.size c.take_page-new.ensures.faults c.take_page-new.ensures.reads c.take_page-new.ensures.changed) c.in_ok-write_page.ensures.left)
