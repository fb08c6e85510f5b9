use Rattle.std.proofs.Common.{◌≡◌, suc, ◌≤◌, length, refl, subst, arith}
use Rattle.quilt_node.specs.Pages.{Inner}
use Rattle.std.specs.List.{insert}
use Rattle.std.proofs.lemmas.List.Edits.{length-insert}
use Rattle.quilt_btree.proofs.stores.Leaves.{edits_err, edits_ok}
use Rattle.quilt_btree.proofs.growth.InnerGrowth.{IsWritten, pending_taken, put_split}
use Rattle.quilt_btree.proofs.Handed.{handed_on}
use Rattle.quilt_btree.proofs.insertion.split_child.Goals as goal

pub returns-in_err-new-clause-sound : goal.returns-in_err-new-clause-sound
returns-in_err-new-clause-sound g c =
    rw (handed_on c.from_residual.result c.from_residual.ensures.1) (λ is_root b all under p room. c.in_err-new.ensures.sound (pending_taken p) room)

pub returns-clause-put : goal.returns-clause-put
returns-clause-put g c is_root b all under p =
    let long = c.requires.place.1 in
    let behind : suc c.args.i ≤ length c.args.inner.now.children = let q = c.requires.place.0 in omega arith in
    let full : length (insert c.args.inner.now.children (suc c.args.i) c.args.child) ≡ 255 =
    omega (arith, length-insert c.args.inner.now.children (suc c.args.i) c.args.child behind) in
    put_split {size = g.S.PageStore.size c.args.store.now} {left = c.bytes.result.now} {right = c.bytes-2.result.now}
    (record {
      inside = c.requires.page.1;
      inside_new = c.in_ok-new.ensures.page.1;
      many = g.met.S.PageStore.as_many c.args.store.now;
      was_free = c.in_ok-new.ensures.free;
      taken = c.in_ok-new.ensures.taken;
      wrote = c.in_ok-new.ensures.told;
    })
    (record {
      full = full;
      is_left = subst (λ (x : Inner). IsWritten c.bytes.result.now x) c.insert_split-right.ensures.left c.bytes.ensures.inner;
      is_right = subst (λ (x : Inner). IsWritten c.bytes-2.result.now x) c.insert_split-right.ensures.right c.bytes-2.ensures.inner;
      parts = c.insert_split-right.ensures.key;
    })
    refl p

pub returns-in_err-new-clause-left : goal.returns-in_err-new-clause-left
returns-in_err-new-clause-left g c = edits_err _ c.from_residual.ensures.1 c.in_err-new.ensures.left

pub returns-clause-left : goal.returns-clause-left
returns-clause-left g c = edits_ok _ _ c.in_ok-new.ensures.left
