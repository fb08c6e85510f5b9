use Rattle.std.proofs.Common.{◌≡◌, refl, sym, ◌∙◌, subst, arith}
use Rattle.quilt_node.specs.Pages.{Inner}
use Rattle.std.proofs.lemmas.Result.{IfErr-weaker}
use Rattle.quilt_btree.proofs.stores.Leaves.{edits_more, edits_err, edits_ok}
use Rattle.quilt_btree.proofs.growth.InnerGrowth.{IsWritten, pending_taken, put_done}
use Rattle.quilt_btree.proofs.Handed.{handed_on}
use Rattle.quilt_btree.proofs.insertion.put_child.Goals as goal

pub returns-in_err-write_page-clause-sound : goal.returns-in_err-write_page-clause-sound
returns-in_err-write_page-clause-sound g c =
    rw (handed_on c.from_residual.result c.from_residual.ensures.1) (λ is_root b all under p room low. c.in_err-write_page.ensures.sound (pending_taken p))

pub returns-then-len-lt-MOST_CHILDREN-clause-put : goal.returns-then-len-lt-MOST_CHILDREN-clause-put
returns-then-len-lt-MOST_CHILDREN-clause-put g c is_root b all under p =
    put_done {size = g.S.PageStore.size c.args.store.now} {bytes = c.bytes.result.now}
    (record { inside = c.requires.page.1; many = g.met.S.PageStore.as_many c.args.store.now; wrote = c.in_ok-write_page.ensures.told })
    (subst (λ (x : Inner). IsWritten c.bytes.result.now x) c.insert.ensures c.bytes.ensures.inner) refl c.in_ok-write_page.ensures.free p

pub returns-then-height-eq3-clause-sound : goal.returns-then-height-eq3-clause-sound
returns-then-height-eq3-clause-sound g c is_root b all under p room low =
    let e = c.len.ensures.length in
    let f = c.if-len-lt-MOST_CHILDREN.false in
    let three : c.args.inner.now.height ≡ 3 = sym c.height.ensures ∙ c.if-height-eq3.true in
    let lt = low three in
    absurd (omega arith)

pub returns-clause-sound : goal.returns-clause-sound
returns-clause-sound g c =
    IfErr-weaker c.split_child.result _ _ (λ e f is_root b all under p room low. f is_root b all under p room) c.split_child.ensures.sound

pub returns-in_err-write_page-clause-left : goal.returns-in_err-write_page-clause-left
returns-in_err-write_page-clause-left g c = edits_more _ 1 0 (edits_err _ c.from_residual.ensures.1 c.in_err-write_page.ensures.left)

pub returns-then-len-lt-MOST_CHILDREN-clause-left : goal.returns-then-len-lt-MOST_CHILDREN-clause-left
returns-then-len-lt-MOST_CHILDREN-clause-left g c = edits_more _ 1 0 (edits_ok _ _ c.in_ok-write_page.ensures.left)
