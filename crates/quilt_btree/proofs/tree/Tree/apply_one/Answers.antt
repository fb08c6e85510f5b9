use Rattle.std.proofs.Common.{◌≡◌, Bool, false, not, sym, ◌∙◌, ap, subst}
use Rattle.std.specs.Prelude.{if◌then◌else◌}
use Rattle.quilt_record.specs.Lists.{put, without}
use Rattle.quilt_btree.specs.Batches.{is_due, edited}
use Rattle.quilt_btree.specs.Edits.{IsWhole}
use Rattle.quilt_btree.proofs.batches.Costs.{edit_cost}
use Rattle.quilt_btree.proofs.stores.Leaves.{edits_on, edits_more, edits_err, edits_ok, edits_damaged}
use Rattle.quilt_btree.proofs.ways.Damage.{stops_behind, run_zero}
use Rattle.quilt_btree.proofs.batches.Whole.{gone}
use Rattle.quilt_btree.proofs.Handed.{handed_on}
use Rattle.quilt_btree.proofs.lists.Lists.{true_false}
use Rattle.quilt_btree.proofs.tree.Tree.apply_one.Goals as goal

pub returns-in_err-is_out-in-Remove-clause-fails : goal.returns-in_err-is_out-in-Remove-clause-fails
returns-in_err-is_out-in-Remove-clause-fails g c =
    rw (handed_on c.from_residual.result c.from_residual.ensures.1) (λ rs w page is. absurd (c.in_err-is_out-in-Remove.ensures.sound rs w page is))

pub returns-then-is_out-clause-edited : goal.returns-then-is_out-clause-edited
returns-then-is_out-clause-edited g c rs w =
    let h = c.in_ok-is_out-in-Remove.ensures.removes.removed rs w in (
      ap (λ e. is_due e rs) c.in-Remove.is ∙ sym h.0 ∙ c.if-is_out.true,
      subst (λ e. IsWhole (g.S.PageStore.told c.remove.new.store) (g.S.PageStore.free c.remove.new.store) (g.S.PageStore.size c.args.store.now)
          c.remove.new.self (edited e rs)) (sym c.in-Remove.is) h.1,
    )

pub returns-in_err-is_new-in-Put-clause-fails : goal.returns-in_err-is_new-in-Put-clause-fails
returns-in_err-is_new-in-Put-clause-fails g c =
    rw (handed_on c.from_residual-in_err-is_new-in-Put.result c.from_residual-in_err-is_new-in-Put.ensures.1)
    (λ rs w page is. absurd (c.in_err-is_new-in-Put.ensures.sound rs w page is))

pub returns-then-is_new-clause-edited : goal.returns-then-is_new-clause-edited
returns-then-is_new-clause-edited g c rs w =
    let h = c.in_ok-is_new-in-Put.ensures.inserts.inserted rs w in (
      ap (λ e. is_due e rs) c.in-Put.is ∙ sym h.0 ∙ c.if-is_new.true,
      subst (λ e. IsWhole (g.S.PageStore.told c.insert.new.store) (g.S.PageStore.free c.insert.new.store) (g.S.PageStore.size c.args.store.now)
          c.insert.new.self (edited e rs)) (sym c.in-Put.is)
          (subst (λ (b : Bool). IsWhole (g.S.PageStore.told c.insert.new.store) (g.S.PageStore.free c.insert.new.store)
          (g.S.PageStore.size c.args.store.now) c.insert.new.self (if b then put c.in-Put.record rs else rs)) c.if-is_new.true h.1),
    )

pub returns-in_err-is_out-in-Replace-clause-fails : goal.returns-in_err-is_out-in-Replace-clause-fails
returns-in_err-is_out-in-Replace-clause-fails g c =
    rw (handed_on c.from_residual-in_err-is_out-in-Replace.result c.from_residual-in_err-is_out-in-Replace.ensures.1)
    (λ rs w page is. absurd (c.in_err-is_out-in-Replace.ensures.sound rs w page is))

pub returns-in-Err-clause-fails : goal.returns-in-Err-clause-fails
returns-in-Err-clause-fails g c rs w =
    let h = c.in_ok-is_out-in-Replace.ensures.removes.removed rs w in
    let mid = subst (λ n. IsWhole (g.S.PageStore.told c.remove-in-Replace.new.store) (g.S.PageStore.free c.remove-in-Replace.new.store) n
    c.remove-in-Replace.new.self (without c.in-Replace.record.key rs)) (sym c.in_ok-is_out-in-Replace.ensures.left.size) h.1 in
    run_zero (is_due c.args.edit.now rs ≡ false) c.in-Err.e c.stop_behind.result 1
    (stops_behind c.in-Err.e c.stop_behind.result 1 c.stop_behind.ensures)
    (λ page is. absurd (c.in-Err.ensures.sound (without c.in-Replace.record.key rs) mid page is))

pub returns-then-is_new-2-clause-edited : goal.returns-then-is_new-2-clause-edited
returns-then-is_new-2-clause-edited g c rs w =
    let k = c.in-Replace.record.key in
    let h = c.in_ok-is_out-in-Replace.ensures.removes.removed rs w in
    let mid = subst (λ n. IsWhole (g.S.PageStore.told c.remove-in-Replace.new.store) (g.S.PageStore.free c.remove-in-Replace.new.store) n
    c.remove-in-Replace.new.self (without k rs)) (sym c.in_ok-is_out-in-Replace.ensures.left.size) h.1 in
    let i = c.in-Ok.ensures.inserts.inserted (without k rs) mid in
    let back = subst (λ n. IsWhole (g.S.PageStore.told c.insert-in-Replace.new.store) (g.S.PageStore.free c.insert-in-Replace.new.store) n
    c.insert-in-Replace.new.self (if c.in-Ok.is_new then put c.in-Replace.record (without k rs) else without k rs))
    c.in_ok-is_out-in-Replace.ensures.left.size i.1 in (
      ap (λ e. is_due e rs) c.in-Replace.is ∙ sym h.0 ∙ c.if-not-is_out.false,
      subst (λ e. IsWhole (g.S.PageStore.told c.insert-in-Replace.new.store) (g.S.PageStore.free c.insert-in-Replace.new.store)
          (g.S.PageStore.size c.args.store.now) c.insert-in-Replace.new.self (edited e rs)) (sym c.in-Replace.is)
          (subst (λ (b : Bool). IsWhole (g.S.PageStore.told c.insert-in-Replace.new.store) (g.S.PageStore.free c.insert-in-Replace.new.store)
          (g.S.PageStore.size c.args.store.now) c.insert-in-Replace.new.self (if b then put c.in-Replace.record (without k rs) else without k rs))
          c.if-is_new-2.true back),
    )

pub returns-else-is_new-2-clause-fails : goal.returns-else-is_new-2-clause-fails
returns-else-is_new-2-clause-fails g c rs w page is =
    let k = c.in-Replace.record.key in
    let h = c.in_ok-is_out-in-Replace.ensures.removes.removed rs w in
    let mid = subst (λ n. IsWhole (g.S.PageStore.told c.remove-in-Replace.new.store) (g.S.PageStore.free c.remove-in-Replace.new.store) n
    c.remove-in-Replace.new.self (without k rs)) (sym c.in_ok-is_out-in-Replace.ensures.left.size) h.1 in
    let i = c.in-Ok.ensures.inserts.inserted (without k rs) mid in
    absurd (true_false c.in-Ok.is_new (i.0 ∙ ap not (gone k rs)) c.if-is_new-2.false)

pub returns-in_err-is_out-in-Remove-clause-left : goal.returns-in_err-is_out-in-Remove-clause-left
returns-in_err-is_out-in-Remove-clause-left g c = edit_cost _ c.in-Remove.is (edits_err _ c.from_residual.ensures.1 c.in_err-is_out-in-Remove.ensures.left)

pub returns-then-is_out-clause-left : goal.returns-then-is_out-clause-left
returns-then-is_out-clause-left g c = edit_cost _ c.in-Remove.is (edits_ok _ _ c.in_ok-is_out-in-Remove.ensures.left)

pub returns-else-is_out-clause-left : goal.returns-else-is_out-clause-left
returns-else-is_out-clause-left g c = edit_cost _ c.in-Remove.is (edits_damaged _ _ c.in_ok-is_out-in-Remove.ensures.left)

pub returns-in_err-is_new-in-Put-clause-left : goal.returns-in_err-is_new-in-Put-clause-left
returns-in_err-is_new-in-Put-clause-left g c =
    edit_cost _ c.in-Put.is (edits_err _ c.from_residual-in_err-is_new-in-Put.ensures.1 c.in_err-is_new-in-Put.ensures.left)

pub returns-then-is_new-clause-left : goal.returns-then-is_new-clause-left
returns-then-is_new-clause-left g c = edit_cost _ c.in-Put.is (edits_ok _ _ c.in_ok-is_new-in-Put.ensures.left)

pub returns-else-is_new-clause-left : goal.returns-else-is_new-clause-left
returns-else-is_new-clause-left g c = edit_cost _ c.in-Put.is (edits_damaged _ _ c.in_ok-is_new-in-Put.ensures.left)

pub returns-in_err-is_out-in-Replace-clause-left : goal.returns-in_err-is_out-in-Replace-clause-left
returns-in_err-is_out-in-Replace-clause-left g c =
    edit_cost _ c.in-Replace.is (edits_more _ 6 6 (edits_err _ c.from_residual-in_err-is_out-in-Replace.ensures.1 c.in_err-is_out-in-Replace.ensures.left))

pub returns-then-not-is_out-clause-left : goal.returns-then-not-is_out-clause-left
returns-then-not-is_out-clause-left g c = edit_cost _ c.in-Replace.is (edits_more _ 6 6 (edits_damaged _ _ c.in_ok-is_out-in-Replace.ensures.left))

pub returns-then-is_new-2-clause-left : goal.returns-then-is_new-2-clause-left
returns-then-is_new-2-clause-left g c =
    edit_cost _ c.in-Replace.is
    (edits_more _ 1 3 (edits_ok _ _ (edits_on _ g.met.S.PageStore.goes_on c.in_ok-is_out-in-Replace.ensures.left c.in-Ok.ensures.left)))

pub returns-else-is_new-2-clause-left : goal.returns-else-is_new-2-clause-left
returns-else-is_new-2-clause-left g c =
    edit_cost _ c.in-Replace.is
    (edits_more _ 1 3 (edits_damaged _ _ (edits_on _ g.met.S.PageStore.goes_on c.in_ok-is_out-in-Replace.ensures.left c.in-Ok.ensures.left)))
