use Rattle.std.proofs.Common.{refl}
use Rattle.quilt_btree.proofs.batches.Made.{lent_leaf, leaf_made, wrote_same}
use Rattle.quilt_btree.proofs.leaf_edits.edit_leaf.Goals as goal

pub returns-in-Some-clause-edited : goal.returns-in-Some-clause-edited
returns-in-Some-clause-edited g c one b rs used top above can =
    let after = c.edit.follows.holds c.edit_some.new.bytes (rw c.in-Ok.is refl) in
    leaf_made {size = g.S.PageStore.size c.args.store.now} {bytes = c.edit_some.new.bytes}
    (record { inside = c.requires.page.1; many = g.met.S.PageStore.as_many c.args.store.now; wrote = after.4 })
    (c.in-Some.ensures.made rs
    (lent_leaf (g.S.PageStore.told c.args.store.now) (g.S.PageStore.free c.args.store.now) c.args.page c.args.is_root b rs used c.in-Ok.bytes.now
    c.in-Ok.ensures.bytes can))
    one c.least_records.ensures (record { above = above; below = c.in-Some.ensures.under; top = top }) after.3 can

pub returns-in-Some-clause-stays : goal.returns-in-Some-clause-stays
returns-in-Some-clause-stays g c none =
    let after = c.edit.follows.holds c.edit_some.new.bytes (rw c.in-Ok.is refl) in (
      wrote_same (g.S.PageStore.told c.args.store.now) _ c.args.page c.in-Ok.bytes.now c.edit_some.new.bytes c.in-Ok.ensures.bytes
          (c.in-Some.ensures.same none) after.4,
      after.3,
    )
