use Rattle.std.proofs.Common.{◌≡◌, arith, ap, ◌∙◌, ℕ, Bool}
use Rattle.quilt_store.specs.Store.{count_free}
use Rattle.quilt_btree.proofs.stores.Leaves.{page_moved, edits_on, edits_more, edits_err, edits_ok}
use Rattle.quilt_btree.proofs.stores.Room.{count_taken}
use Rattle.quilt_btree.proofs.split.write_split.Goals as goal

pub returns-clause-room : goal.returns-clause-room
returns-clause-room g c =
    let free = g.S.PageStore.free in
    let size = g.S.PageStore.size c.args.store.now in
    let new = c.take_page-new.result in
    let range = g.met.S.PageStore.free_pages_are c.args.store.now new c.take_page-new.ensures.page in
    let one = count_taken new size (free c.args.store.now) (free c.take_page-new.new.self) range.0 range.1 c.take_page-new.ensures.page
    c.take_page-new.ensures.free in
    let same : count_free (free c.write_page-2.new.store) size ≡ count_free (free c.take_page-new.new.self) size =
    ap (λ (f : ℕ → Bool). count_free f size) (c.in_ok-write_page-2.ensures.free ∙ c.in_ok-write_page.ensures.free) in
    omega (arith, one, same)

pub returns-in_err-write_page-clause-left : goal.returns-in_err-write_page-clause-left
returns-in_err-write_page-clause-left g c =
    edits_more _ 1 0 (edits_err _ c.from_residual.ensures.1
    (edits_on _ g.met.S.PageStore.goes_on (page_moved g.S.PageStore c.take_page-new.ensures.later c.take_page-new.ensures.size c.take_page-new.ensures.faults c.take_page-new.ensures.reads c.take_page-new.ensures.changed) c.in_err-write_page.ensures.left))

pub returns-in_err-write_page-2-clause-left : goal.returns-in_err-write_page-2-clause-left
returns-in_err-write_page-2-clause-left g c =
    edits_err _ c.from_residual-in_err-write_page-2.ensures.1 (edits_on _ g.met.S.PageStore.goes_on (edits_on _ g.met.S.PageStore.goes_on
    (page_moved g.S.PageStore c.take_page-new.ensures.later c.take_page-new.ensures.size c.take_page-new.ensures.faults c.take_page-new.ensures.reads c.take_page-new.ensures.changed) c.in_ok-write_page.ensures.left) c.in_err-write_page-2.ensures.left)

pub returns-clause-left : goal.returns-clause-left
returns-clause-left g c =
    edits_ok _ _ (edits_on _ g.met.S.PageStore.goes_on (edits_on _ g.met.S.PageStore.goes_on
    (page_moved g.S.PageStore c.take_page-new.ensures.later c.take_page-new.ensures.size c.take_page-new.ensures.faults c.take_page-new.ensures.reads c.take_page-new.ensures.changed) c.in_ok-write_page.ensures.left) c.in_ok-write_page-2.ensures.left)
