use Rattle.std.proofs.Common.{◌≡◌, arith, true, IfOk, IfErr, List, take, refl, sym, ◌∙◌, ap, subst}
use Rattle.std.proofs.lemmas.Bool.{and_from}
use Rattle.quilt_record.specs.declared.record.Record.{Record}
use Rattle.quilt_btree.specs.Batches.{is_due, are_due, edit_all}
use Rattle.quilt_btree.specs.Edits.{IsWhole}
use Rattle.quilt_btree.proofs.batches.Leaves.{edit_at}
use Rattle.quilt_btree.proofs.batches.Costs.{first_only, first_none}
use Rattle.quilt_btree.proofs.batches.Whole.{NamesUndue, first_one, first_rest, first_fails}
use Rattle.quilt_btree.proofs.Handed.{handed_on}
use Rattle.quilt_btree.proofs.tree.Tree.apply_first.Goals as goal

pub returns-in-Put-clause-edited : goal.returns-in-Put-clause-edited
returns-in-Put-clause-edited g c =
    subst (λ l. IfOk c.place.result (λ n. (rs : List Record)
    → IsWhole (g.S.PageStore.told c.args.store.now) (g.S.PageStore.free c.args.store.now) (g.S.PageStore.size c.args.store.now) c.args.self.now rs
    → (are_due (take n l) rs ≡ true) × IsWhole (g.S.PageStore.told c.place.new.store) (g.S.PageStore.free c.place.new.store)
    (g.S.PageStore.size c.args.store.now) c.place.new.self (edit_all (take n l) rs)))
    (sym (first_rest c.args.run.now c.requires.some c.in-Put.is)) c.place.ensures.edited

pub returns-in-Put-clause-fails : goal.returns-in-Put-clause-fails
returns-in-Put-clause-fails g c =
    subst (λ l. IfErr c.place.result (λ e. NamesUndue e (g.S.PageStore.told c.args.store.now) (g.S.PageStore.free c.args.store.now)
    (g.S.PageStore.size c.args.store.now) c.args.self.now l))
    (sym (first_rest c.args.run.now c.requires.some c.in-Put.is)) c.place.ensures.fails

pub returns-in_err-apply_one-in_default-clause-fails : goal.returns-in_err-apply_one-in_default-clause-fails
returns-in_err-apply_one-in_default-clause-fails g c =
    rw (handed_on c.from_residual.result c.from_residual.ensures.1) (λ rs w page is.
    let h = c.in_err-apply_one-in_default.ensures.fails rs w page is in (h.0, first_fails c.args.run.now rs c.requires.some h.1))

pub returns-in_ok-apply_one-in_default-clause-edited : goal.returns-in_ok-apply_one-in_default-clause-edited
returns-in_ok-apply_one-in_default-clause-edited g c rs w =
    let h = c.in_ok-apply_one-in_default.ensures.edited rs w in
    let one = first_one c.args.run.now c.requires.some in (
      ap (λ l. are_due l rs) one ∙ and_from (is_due (edit_at c.args.run.now 0) rs) true h.0 refl,
      subst (λ l. IsWhole (g.S.PageStore.told c.apply_one.new.store) (g.S.PageStore.free c.apply_one.new.store) (g.S.PageStore.size c.args.store.now)
          c.apply_one.new.self (edit_all l rs)) (sym one) h.1,
    )

pub returns-in_ok-apply_one-in_default-clause-left : goal.returns-in_ok-apply_one-in_default-clause-left
returns-in_ok-apply_one-in_default-clause-left g c =
    first_only _ c.args.run.now 1 c.requires.some (omega arith) c.in_ok-apply_one-in_default.ensures.left

pub returns-in_err-apply_one-in_default-clause-left : goal.returns-in_err-apply_one-in_default-clause-left
returns-in_err-apply_one-in_default-clause-left g c =
    rw (handed_on c.from_residual.result c.from_residual.ensures.1)
    (first_none _ c.args.run.now _ c.requires.some c.in_err-apply_one-in_default.ensures.left)
