use Rattle.std.proofs.Common.{◌≡◌, suc, length, arith}
use Rattle.quilt_node.specs.Edits.{without_child}
use Rattle.quilt_btree.specs.Rebalancing.{WritesInner}
use Rattle.quilt_btree.proofs.stores.Leaves.{edits_err, edits_ok}
use Rattle.quilt_btree.proofs.removals.Drops.{dropped_written, dropped_many}
use Rattle.quilt_btree.proofs.removal.drop_child.Given.{Over}
use Rattle.quilt_btree.proofs.removal.drop_child.Goals.{In_ok-write_page}
use Rattle.quilt_btree.proofs.removal.drop_child.Goals as goal

-- how many children it has, and how it was written
dropped : (g : Over) (c : In_ok-write_page g) → (suc c.len-left.result ≡ length c.args.inner.now.children)
    × WritesInner c.args.page (without_child c.args.inner.now c.args.j) (g.S.PageStore.told c.args.store.now) (g.S.PageStore.told c.write_page.new.store)
dropped g c = (
  dropped_many c.args.inner.now c.args.j c.remove.ensures c.requires.place c.len.ensures.length c.len.ensures.keys c.len-left.ensures.length,
  dropped_written (g.S.PageStore.told c.args.store.now) (g.S.PageStore.told c.write_page.new.store) (g.S.PageStore.size c.args.store.now)
      c.args.page c.args.j c.args.inner.now c.bytes.result.now
      (g.met.S.PageStore.as_many c.args.store.now) c.in_ok-write_page.ensures.told c.requires.children c.remove.ensures c.bytes.ensures.inner,
)

pub returns-then-left-lt-LEAST_CHILDREN-clause-dropped : goal.returns-then-left-lt-LEAST_CHILDREN-clause-dropped
returns-then-left-lt-LEAST_CHILDREN-clause-dropped g c =
    let d = dropped g (goal.at.returns-then-left-lt-LEAST_CHILDREN-clause-dropped g c).In_ok-write_page in
    (let m = d.0 in let h = c.if-left-lt-LEAST_CHILDREN.true in omega arith, d.1)

pub returns-else-left-lt-LEAST_CHILDREN-clause-dropped : goal.returns-else-left-lt-LEAST_CHILDREN-clause-dropped
returns-else-left-lt-LEAST_CHILDREN-clause-dropped g c =
    let d = dropped g (goal.at.returns-else-left-lt-LEAST_CHILDREN-clause-dropped g c).In_ok-write_page in
    (let m = d.0 in let h = c.if-left-lt-LEAST_CHILDREN.false in omega arith, d.1)

pub returns-in_err-write_page-clause-left : goal.returns-in_err-write_page-clause-left
returns-in_err-write_page-clause-left g c = edits_err _ c.from_residual.ensures.1 c.in_err-write_page.ensures.left

pub returns-then-left-lt-LEAST_CHILDREN-clause-left : goal.returns-then-left-lt-LEAST_CHILDREN-clause-left
returns-then-left-lt-LEAST_CHILDREN-clause-left g c = edits_ok _ _ c.in_ok-write_page.ensures.left

pub returns-else-left-lt-LEAST_CHILDREN-clause-left : goal.returns-else-left-lt-LEAST_CHILDREN-clause-left
returns-else-left-lt-LEAST_CHILDREN-clause-left g c = edits_ok _ _ c.in_ok-write_page.ensures.left
