use Rattle.std.proofs.Common.{◌≡◌, ◌<◌, ◌∙◌, ℕ, Bool, true, Some, take, ap, sym, subst, arith}
use Rattle.std.specs.List.{list_all}
use Rattle.quilt_node.specs.Tree.{is_below}
use Rattle.quilt_store.specs.Store.{count_free}
use Rattle.quilt_btree.specs.Batches.{edit_keys}
use Rattle.quilt_btree.specs.Placing.{PutsFirst}
use Rattle.quilt_btree.proofs.Handed.{handed_on}
use Rattle.quilt_btree.proofs.batches.Puts.{order_take}
use Rattle.quilt_btree.proofs.growth.Below.{same_of}
use Rattle.quilt_btree.proofs.growth.LeafGrowth.{leaf_there}
use Rattle.quilt_btree.proofs.growth.NewLeaf.{comes_behind, leaf_placed, placed_along}
use Rattle.quilt_btree.proofs.growth.OneRecord.{placed_one}
use Rattle.quilt_btree.proofs.removals.LeafRemovals.{leaf_read, leaf_same}
use Rattle.quilt_btree.proofs.stores.Leaves.{looked, edits_on, edits_more, edits_err, edits_ok}
use Rattle.quilt_btree.proofs.stores.Room.{count_taken}
use Rattle.quilt_btree.proofs.subtrees.Along.{can_along}
use Rattle.quilt_btree.proofs.placement.place_in_leaf.Goals.{After-from_bytes-leaf, then-i-eq-MOST_RECORDS, else-i-eq-MOST_RECORDS}
use Rattle.quilt_btree.proofs.placement.place_in_leaf.Goals as goal

pub returns-in_err-outcome-in-Err-clause-sound : goal.returns-in_err-outcome-in-Err-clause-sound
returns-in_err-outcome-in-Err-clause-sound g c =
    rw (handed_on c.from_residual-in_err-outcome-in-Err.result c.from_residual-in_err-outcome-in-Err.ensures.1) (λ is_root b rs used can.
    c.in_err-outcome-in-Err.ensures.sound is_root b rs used
    (can_along _ _ _ _ _ _ _ _ is_root b rs used c.args.r.now.key (same_of c.in_ok-read_into.ensures.left) can))

pub returns-in_err-outcome-in-Err-clause-left : goal.returns-in_err-outcome-in-Err-clause-left
returns-in_err-outcome-in-Err-clause-left g c =
    edits_err _ c.from_residual-in_err-outcome-in-Err.ensures.1 (edits_on _ g.met.S.PageStore.goes_on
    (looked _ 1 c.in_ok-read_into.ensures.left c.in_ok-read_into.ensures.reads) c.in_err-outcome-in-Err.ensures.left)

pub returns-then-more-lt-LEAST_RECORDS-clause-placed : goal.returns-then-more-lt-LEAST_RECORDS-clause-placed
returns-then-more-lt-LEAST_RECORDS-clause-placed g c is_root b rs used top can =
    placed_along (same_of c.in_ok-read_into.ensures.left)
    (λ then_can. placed_one (c.in_ok-outcome-in-Err.ensures.put is_root b rs used
    (leaf_same can.can_edit (leaf_read c.in_ok-read_into.ensures.bytes c.from_bytes-leaf.ensures)) then_can) can.high) can

pub returns-then-more-lt-LEAST_RECORDS-clause-left : goal.returns-then-more-lt-LEAST_RECORDS-clause-left
returns-then-more-lt-LEAST_RECORDS-clause-left g c =
    edits_ok _ _ (edits_on _ g.met.S.PageStore.goes_on (looked _ 1 c.in_ok-read_into.ensures.left c.in_ok-read_into.ensures.reads)
    c.in_ok-outcome-in-Err.ensures.left)

pub leaf_with-new-requires-clause-order : goal.leaf_with-new-requires-clause-order
leaf_with-new-requires-clause-order g c = order_take c.args.r.now.key c.if-i-eq-MOST_RECORDS.more c.args.behind.now c.requires.order

pub returns-in_err-right-in-Err-clause-left : goal.returns-in_err-right-in-Err-clause-left
returns-in_err-right-in-Err-clause-left g c =
    edits_err _ c.from_residual-in_err-right-in-Err.ensures.1 (edits_more _ 1 0 (edits_on _ g.met.S.PageStore.goes_on
    (looked _ 1 c.in_ok-read_into.ensures.left c.in_ok-read_into.ensures.reads) c.in_err-right-in-Err.ensures.left))

pub returns-in-Ok-clause-placed : goal.returns-in-Ok-clause-placed
returns-in-Ok-clause-placed g c is_root b rs used top can =
    placed_one (leaf_there (g.S.PageStore.told c.args.store.now) (g.S.PageStore.told c.read_into.new.store) (g.S.PageStore.free c.args.store.now)
    (g.S.PageStore.free c.read_into.new.store) (g.S.PageStore.size c.args.store.now) c.args.page c.in-Ok.field-0 c.args.r.now is_root b rs used
    c.from_bytes-leaf.result c.in_ok-read_into.ensures.left.told
    (leaf_same can.can_edit (leaf_read c.in_ok-read_into.ensures.bytes c.from_bytes-leaf.ensures)) c.in-Ok.ensures.place can) can.high

pub returns-in_ok-right-in-Err-clause-placed : goal.returns-in_ok-right-in-Err-clause-placed
returns-in_ok-right-in-Err-clause-placed g c is_root b rs used top can =
    elim c.if-i-eq-MOST_RECORDS.branch [
      | then-i-eq-MOST_RECORDS w ↦ placed_along (same_of c.in_ok-read_into.ensures.left)
          (leaf_placed (comes_behind (leaf_same can.can_edit (leaf_read c.in_ok-read_into.ensures.bytes c.from_bytes-leaf.ensures))
          c.in-Err.ensures.place w.if-i-eq-MOST_RECORDS.true (subst (PutsFirst c.args.behind.now) (sym w.more-is) w.coming-more.ensures.puts)
          c.if-more-lt-LEAST_RECORDS.false c.requires.order)
          (record {
            inside = c.in_ok-right-in-Err.ensures.page.1;
            many = g.met.S.PageStore.as_many c.read_into.new.store;
            was_free = c.in_ok-right-in-Err.ensures.free;
            taken = c.in_ok-right-in-Err.ensures.taken;
            wrote = c.in_ok-right-in-Err.ensures.told;
          })
          (c.bytes.ensures.leaf ∙ ap Some c.leaf_with-new.ensures)
          (subst (λ n. list_all (is_below b.high) (edit_keys (take n c.args.behind.now)) ≡ true) (sym w.more-is)
          (subst (λ h. list_all (is_below h) (edit_keys (take w.coming-more.result c.args.behind.now)) ≡ true) (sym top) w.coming-more.ensures.under))) can
      | else-i-eq-MOST_RECORDS w ↦ absurd (let e = w.more-is in let f = c.if-more-lt-LEAST_RECORDS.false in omega (arith, e, f))
    ]

pub returns-in_ok-right-in-Err-clause-leaves : goal.returns-in_ok-right-in-Err-clause-leaves
returns-in_ok-right-in-Err-clause-leaves g c =
    let left = c.in_ok-read_into.ensures.left in
    let new = c.in_ok-right-in-Err.ensures in
    let size = g.S.PageStore.size c.args.store.now in
    let under = subst (λ n. c.in_ok-right-in-Err.right < n) left.size new.page.1 in
    let one = count_taken c.in_ok-right-in-Err.right size (g.S.PageStore.free c.read_into.new.store) (g.S.PageStore.free c.write_new.new.store) new.page.0
    under new.free new.taken in
    let same : count_free (g.S.PageStore.free c.read_into.new.store) size ≡ count_free (g.S.PageStore.free c.args.store.now) size =
    ap (λ (f : ℕ → Bool). count_free f size) left.free in
    record { right = (new.page.0, under); room = omega (arith, one, same) }

pub returns-in_ok-right-in-Err-clause-left : goal.returns-in_ok-right-in-Err-clause-left
returns-in_ok-right-in-Err-clause-left g c =
    edits_ok _ _ (edits_more _ 1 0 (edits_on _ g.met.S.PageStore.goes_on
    (looked _ 1 c.in_ok-read_into.ensures.left c.in_ok-read_into.ensures.reads) c.in_ok-right-in-Err.ensures.left))
