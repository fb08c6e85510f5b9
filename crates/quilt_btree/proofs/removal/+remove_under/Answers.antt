use Rattle.std.proofs.Common.{◌≡◌, ◌-◌, ◌*◌, Some, refl, sym, subst, ◌∙◌, arith}
use Rattle.quilt_node.specs.Pages.{inner_of}
use Rattle.quilt_btree.specs.Searches.{IsHigh}
use Rattle.quilt_btree.proofs.ways.Forks.{place_inside, read_ok}
use Rattle.quilt_btree.proofs.ways.Damage.{bad_below, beside_named, inner_fault, named_leaf}
use Rattle.quilt_btree.specs.declared.outcomes.Removed.TheVariants.{Underfull, Done}
use Rattle.quilt_btree.proofs.stores.Leaves.{looked, edits_within, edits_err, edits_ok, edits_damaged, removes_below, removes_above}
use Rattle.quilt_btree.proofs.growth.Finding.{finds_below, found_in_leaf, found_finds}
use Rattle.quilt_btree.proofs.growth.Below.{leads_to, edit_spells}
use Rattle.quilt_btree.proofs.removals.Removals.{sound_child, missing_child, done_child, rebalanced_child}
use Rattle.quilt_btree.proofs.removals.Removals.{rebalanced_sound, emptied_child, only_child, leaf_sound}
use Rattle.quilt_btree.proofs.Handed.{handed_on}
use Rattle.quilt_btree.proofs.removal.+remove_under.Goals as goal

-- a page with too few is not one that is done
underfull_done : Underfull ≡ Done → ⊥
underfull_done h = cc

pub returns-then-height-eq1-clause-sound : goal.returns-then-height-eq1-clause-sound
returns-then-height-eq1-clause-sound g t c =
    leaf_sound c.remove_in_leaf.result (g.S.PageStore.told c.args.store.now) (g.S.PageStore.free c.args.store.now)
    c.args.page c.args.height c.if-height-eq1.true c.remove_in_leaf.ensures.sound

pub returns-in_err-path-clause-sound : goal.returns-in_err-path-clause-sound
returns-in_err-path-clause-sound g t c =
    rw (handed_on c.from_residual.result c.from_residual.ensures.1)
    (λ is_root b rs used can. c.in_err-path.ensures.sound c.args.height rs c.requires.height c.if-height-eq1.false (edit_spells can))

pub returns-in_err-remove_under-clause-sound : goal.returns-in_err-remove_under-clause-sound
returns-in_err-remove_under-clause-sound g t c =
    rw (handed_on c.from_residual-in_err-remove_under.result c.from_residual-in_err-remove_under.ensures.1) (λ is_root b rs used can.
    let h = c.in_ok-path.ensures.here c.args.height rs c.requires.height c.if-height-eq1.false (edit_spells can) in
    sound_child (leads_to c.in_ok-path.ensures.left c.requires.height c.if-height-eq1.false (c.in_ok-path.ensures.path h.inner h.is))
    can _ c.in_err-remove_under.ensures.sound)

pub returns-in-Missing-clause-removed : goal.returns-in-Missing-clause-removed
returns-in-Missing-clause-removed g t c = λ is_root b rs used can.
    let h = c.in_ok-path.ensures.here c.args.height rs c.requires.height c.if-height-eq1.false (edit_spells can) in
    missing_child (leads_to c.in_ok-path.ensures.left c.requires.height c.if-height-eq1.false (c.in_ok-path.ensures.path h.inner h.is))
    can (rw c.in-Missing.is at c.in_ok-remove_under.ensures.removed)

pub returns-in-Done-clause-removed : goal.returns-in-Done-clause-removed
returns-in-Done-clause-removed g t c = λ is_root b rs used can.
    let h = c.in_ok-path.ensures.here c.args.height rs c.requires.height c.if-height-eq1.false (edit_spells can) in
    done_child (leads_to c.in_ok-path.ensures.left c.requires.height c.if-height-eq1.false (c.in_ok-path.ensures.path h.inner h.is))
    (rw c.in-Done.is at c.in_ok-remove_under.ensures.removed) can

pub returns-in-Some-clause-removed : goal.returns-in-Some-clause-removed
returns-in-Some-clause-removed g t c =
    let is = subst (λ n. inner_of n c.read_path.new.bytes ≡ Some c.in-Some.inner)
    (c.pages.ensures ∙ c.in_ok-remove_under.ensures.left.size ∙ c.in_ok-path.ensures.left.size) c.in-Some.ensures.inner in
    rebalanced_child (leads_to c.in_ok-path.ensures.left c.requires.height c.if-height-eq1.false (c.in_ok-path.ensures.path c.in-Some.inner is))
    (rw c.in-Underfull.is at c.in_ok-remove_under.ensures.removed) c.rebalance_child.result (g.S.PageStore.told c.rebalance_child.new.store)
    (g.S.PageStore.free c.rebalance_child.new.store) c.rebalance_child.ensures.remains.some c.rebalance_child.ensures.leaves

pub returns-in-Some-clause-sound : goal.returns-in-Some-clause-sound
returns-in-Some-clause-sound g t c =
    let is = subst (λ n. inner_of n c.read_path.new.bytes ≡ Some c.in-Some.inner)
    (c.pages.ensures ∙ c.in_ok-remove_under.ensures.left.size ∙ c.in_ok-path.ensures.left.size) c.in-Some.ensures.inner in
    rebalanced_sound (leads_to c.in_ok-path.ensures.left c.requires.height c.if-height-eq1.false (c.in_ok-path.ensures.path c.in-Some.inner is))
    (rw c.in-Underfull.is at c.in_ok-remove_under.ensures.removed) c.rebalance_child.result c.rebalance_child.ensures.sound

pub returns-in-Emptied-clause-sound : goal.returns-in-Emptied-clause-sound
returns-in-Emptied-clause-sound g t c = λ is_root b rs used can.
    let h = c.in_ok-path.ensures.here c.args.height rs c.requires.height c.if-height-eq1.false (edit_spells can) in
    emptied_child (leads_to c.in_ok-path.ensures.left c.requires.height c.if-height-eq1.false (c.in_ok-path.ensures.path h.inner h.is))
    _ (rw c.in-Emptied.is at c.in_ok-remove_under.ensures.removed) can

pub returns-in-Only-clause-sound : goal.returns-in-Only-clause-sound
returns-in-Only-clause-sound g t c = λ is_root b rs used can.
    let h = c.in_ok-path.ensures.here c.args.height rs c.requires.height c.if-height-eq1.false (edit_spells can) in
    only_child (leads_to c.in_ok-path.ensures.left c.requires.height c.if-height-eq1.false (c.in_ok-path.ensures.path h.inner h.is))
    _ _ (rw c.in-Only.is at c.in_ok-remove_under.ensures.removed) can

pub returns-then-height-eq1-clause-finds : goal.returns-then-height-eq1-clause-finds
returns-then-height-eq1-clause-finds g t c =
    found_in_leaf c.remove_in_leaf.result (g.S.PageStore.told c.args.store.now) c.args.page c.args.height c.args.k.now c.if-height-eq1.true
    c.remove_in_leaf.ensures.finds

pub returns-in-Missing-clause-finds : goal.returns-in-Missing-clause-finds
returns-in-Missing-clause-finds g t c = λ rs s.
    let h = c.in_ok-path.ensures.here c.args.height rs c.requires.height c.if-height-eq1.false s in
    finds_below (leads_to c.in_ok-path.ensures.left c.requires.height c.if-height-eq1.false (c.in_ok-path.ensures.path h.inner h.is)).at
    (rw c.in-Missing.is at c.in_ok-remove_under.ensures.finds) rs s

pub returns-in-Done-clause-finds : goal.returns-in-Done-clause-finds
returns-in-Done-clause-finds g t c = λ rs s.
    let h = c.in_ok-path.ensures.here c.args.height rs c.requires.height c.if-height-eq1.false s in
    finds_below (leads_to c.in_ok-path.ensures.left c.requires.height c.if-height-eq1.false (c.in_ok-path.ensures.path h.inner h.is)).at
    (rw c.in-Done.is at c.in_ok-remove_under.ensures.finds) rs s

pub returns-in-Some-clause-finds : goal.returns-in-Some-clause-finds
returns-in-Some-clause-finds g t c =
    found_finds c.rebalance_child.result (g.S.PageStore.told c.args.store.now) c.args.page c.args.height c.args.k.now
    c.rebalance_child.ensures.remains.some
    (λ rs s.
    let h = c.in_ok-path.ensures.here c.args.height rs c.requires.height c.if-height-eq1.false s in
    finds_below (leads_to c.in_ok-path.ensures.left c.requires.height c.if-height-eq1.false (c.in_ok-path.ensures.path h.inner h.is)).at
    (rw c.in-Underfull.is at c.in_ok-remove_under.ensures.finds) rs s)

pub returns-in-None-clause-sound : goal.returns-in-None-clause-sound
returns-in-None-clause-sound g t c is_root b rs used can =
    let h = c.in_ok-path.ensures.here c.args.height rs c.requires.height c.if-height-eq1.false (edit_spells can) in
    absurd (c.in-None.ensures.none refl
    (subst (λ n. IsHigh n c.read_path.new.bytes c.args.height) (sym (c.pages.ensures ∙ c.in_ok-remove_under.ensures.left.size ∙ c.in_ok-path.ensures.left.size)) h))

pub rebalance_child-requires-clause-place : goal.rebalance_child-requires-clause-place
rebalance_child-requires-clause-place g t c =
    let is = subst (λ n. inner_of n c.read_path.new.bytes ≡ Some c.in-Some.inner)
    (c.pages.ensures ∙ c.in_ok-remove_under.ensures.left.size ∙ c.in_ok-path.ensures.left.size) c.in-Some.ensures.inner in
    place_inside (g.S.PageStore.size c.args.store.now) c.read_path.new.bytes c.in-Some.inner c.args.k.now c.in_ok-path.path.place is
    (c.in_ok-path.ensures.path c.in-Some.inner is).is_place

pub returns-then-height-eq1-clause-bad : goal.returns-then-height-eq1-clause-bad
returns-then-height-eq1-clause-bad g t c =
    named_leaf c.remove_in_leaf.result (g.S.PageStore.told c.args.store.now) c.args.height c.args.page c.if-height-eq1.true
    c.remove_in_leaf.ensures.bad

pub returns-in_err-path-clause-bad : goal.returns-in_err-path-clause-bad
returns-in_err-path-clause-bad g t c =
    rw (handed_on c.from_residual.result c.from_residual.ensures.1) (λ ne. c.in_err-path.ensures.bad c.args.height c.requires.height c.if-height-eq1.false)

pub returns-in_err-remove_under-clause-bad : goal.returns-in_err-remove_under-clause-bad
returns-in_err-remove_under-clause-bad g t c =
    rw (handed_on c.from_residual-in_err-remove_under.result c.from_residual-in_err-remove_under.ensures.1) (λ ne.
    bad_below c.in_ok-path.path.child _
    (read_ok (g.S.PageStore.told c.args.store.now) (g.S.PageStore.told c.read_path.new.store) c.args.page c.args.height
    (g.S.PageStore.size c.args.store.now) (g.S.PageStore.size c.args.store.now) c.read_path.new.bytes c.requires.height c.if-height-eq1.false
    c.in_ok-path.ensures.left.told (g.met.S.PageStore.as_many c.args.store.now) refl c.in_ok-path.ensures.bytes)
    c.in_ok-path.ensures.stands (c.in_err-remove_under.ensures.bad ne))

pub returns-in-None-clause-bad : goal.returns-in-None-clause-bad
returns-in-None-clause-bad g t c =
    let same : c.pages-in-None.result ≡ g.S.PageStore.size c.args.store.now = c.pages-in-None.ensures ∙ c.in_ok-remove_under.ensures.left.size ∙
    c.in_ok-path.ensures.left.size in
    inner_fault c.inner_at_fault.result
    (read_ok (g.S.PageStore.told c.args.store.now) (g.S.PageStore.told c.read_path.new.store) c.args.page c.args.height
    c.pages-in-None.result (g.S.PageStore.size c.args.store.now) c.read_path.new.bytes c.requires.height c.if-height-eq1.false
    c.in_ok-path.ensures.left.told (g.met.S.PageStore.as_many c.args.store.now) same c.in_ok-path.ensures.bytes)
    c.inner_at_fault.ensures.fault

pub returns-in-Some-clause-bad : goal.returns-in-Some-clause-bad
returns-in-Some-clause-bad g t c =
    let is = subst (λ n. inner_of n c.read_path.new.bytes ≡ Some c.in-Some.inner)
    (c.pages.ensures ∙ c.in_ok-remove_under.ensures.left.size ∙ c.in_ok-path.ensures.left.size) c.in-Some.ensures.inner in
    beside_named c.rebalance_child.result
    (g.S.PageStore.told c.remove_under.new.store) c.in_ok-path.path.place
    (read_ok (g.S.PageStore.told c.args.store.now) (g.S.PageStore.told c.read_path.new.store) c.args.page c.args.height
    (g.S.PageStore.size c.args.store.now) (g.S.PageStore.size c.args.store.now) c.read_path.new.bytes c.requires.height c.if-height-eq1.false
    c.in_ok-path.ensures.left.told (g.met.S.PageStore.as_many c.args.store.now) refl c.in_ok-path.ensures.bytes)
    is (c.in_ok-path.ensures.path c.in-Some.inner is).child_is c.in_ok-remove_under.ensures.others c.rebalance_child.ensures.bad

pub returns-in-Some-clause-left : goal.returns-in-Some-clause-left
returns-in-Some-clause-left g t c =
    let below = rw c.in-Underfull.is at c.in_ok-remove_under.ensures.remains in
    removes_above _ g.met.S.PageStore.goes_on c.args.height c.requires.height c.if-height-eq1.false (below.less underfull_done) c.in_ok-path.ensures.left c.in_ok-path.ensures.reads
    c.in_ok-remove_under.ensures.left c.rebalance_child.ensures.left

pub returns-in_err-remove_under-clause-left : goal.returns-in_err-remove_under-clause-left
returns-in_err-remove_under-clause-left g t c =
    edits_err _ c.from_residual-in_err-remove_under.ensures.1
    (removes_below _ g.met.S.PageStore.goes_on c.args.height c.requires.height c.in_ok-path.ensures.left c.in_ok-path.ensures.reads c.in_err-remove_under.ensures.left)

pub returns-in-Missing-clause-left : goal.returns-in-Missing-clause-left
returns-in-Missing-clause-left g t c =
    edits_ok _ _ (removes_below _ g.met.S.PageStore.goes_on c.args.height c.requires.height c.in_ok-path.ensures.left c.in_ok-path.ensures.reads c.in_ok-remove_under.ensures.left)

pub returns-in-Done-clause-left : goal.returns-in-Done-clause-left
returns-in-Done-clause-left g t c =
    edits_ok _ _ (removes_below _ g.met.S.PageStore.goes_on c.args.height c.requires.height c.in_ok-path.ensures.left c.in_ok-path.ensures.reads c.in_ok-remove_under.ensures.left)

pub returns-in-Emptied-clause-left : goal.returns-in-Emptied-clause-left
returns-in-Emptied-clause-left g t c =
    edits_damaged _ _
    (removes_below _ g.met.S.PageStore.goes_on c.args.height c.requires.height c.in_ok-path.ensures.left c.in_ok-path.ensures.reads c.in_ok-remove_under.ensures.left)

pub returns-in-Only-clause-left : goal.returns-in-Only-clause-left
returns-in-Only-clause-left g t c =
    edits_damaged _ _
    (removes_below _ g.met.S.PageStore.goes_on c.args.height c.requires.height c.in_ok-path.ensures.left c.in_ok-path.ensures.reads c.in_ok-remove_under.ensures.left)

pub returns-in-None-clause-left : goal.returns-in-None-clause-left
returns-in-None-clause-left g t c =
    edits_damaged _ _
    (removes_below _ g.met.S.PageStore.goes_on c.args.height c.requires.height c.in_ok-path.ensures.left c.in_ok-path.ensures.reads c.in_ok-remove_under.ensures.left)

pub returns-then-height-eq1-clause-left : goal.returns-then-height-eq1-clause-left
returns-then-height-eq1-clause-left g t c =
    let some = c.requires.height in
    edits_within _ (2 * c.args.height) (3 * c.args.height - 2) (omega arith) (omega arith) c.remove_in_leaf.ensures.left

pub returns-in_err-path-clause-left : goal.returns-in_err-path-clause-left
returns-in_err-path-clause-left g t c =
    let some = c.requires.height in
    edits_within _ (2 * c.args.height) (3 * c.args.height - 2) (omega arith) (omega arith)
    (edits_err _ c.from_residual.ensures.1 (looked _ 1 c.in_err-path.ensures.left c.in_err-path.ensures.reads))
