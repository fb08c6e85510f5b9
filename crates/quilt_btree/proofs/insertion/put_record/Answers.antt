use Rattle.std.specs.Prelude.{slice_get}
use Rattle.std.proofs.Common.{◌≡◌, List, length, refl, Some, take, drop, ◌∙◌, ap, subst, arith}
use Rattle.std.specs.List.{insert}
use Rattle.quilt_record.specs.declared.record.Record.{Record}
use Rattle.quilt_node.specs.Nodes.{IsGap}
use Rattle.quilt_btree.proofs.stores.Leaves.{edits_more, edits_err, edits_ok}
use Rattle.quilt_btree.proofs.growth.LeafGrowth.{gap_ascends, leaf_done, leaf_split}
use Rattle.quilt_btree.proofs.insertion.put_record.Goals as goal

pub insert-requires-clause-order : goal.insert-requires-clause-order
insert-requires-clause-order g c = gap_ascends c.args.r.now c.args.leaf.now c.args.i c.len.ensures.is.ascends c.requires.place

pub returns-then-len-lt-MOST_RECORDS-clause-put : goal.returns-then-len-lt-MOST_RECORDS-clause-put
returns-then-len-lt-MOST_RECORDS-clause-put g c is_root b rs used same can =
    leaf_done (g.S.PageStore.told c.args.store.now) (g.S.PageStore.told c.write_page.new.store) (g.S.PageStore.free c.args.store.now)
    (g.S.PageStore.free c.write_page.new.store) (g.S.PageStore.size c.args.store.now) c.args.page c.args.i c.args.r.now is_root b rs used
    c.bytes.result.now
    (record {
      inside = c.requires.page.1;
      many = g.met.S.PageStore.as_many c.args.store.now;
      gap = subst (λ (l : List Record). IsGap c.args.r.now.key l c.args.i) same c.requires.place;
    })
    (c.bytes.ensures.leaf ∙ ap Some (c.insert.ensures ∙ ap (λ (l : List Record). insert l c.args.i c.args.r.now) same))
    c.in_ok-write_page.ensures.told c.in_ok-write_page.ensures.free can

pub insert_split-right-requires-clause-order : goal.insert_split-right-requires-clause-order
insert_split-right-requires-clause-order g c = gap_ascends c.args.r.now c.args.leaf.now c.args.i c.len.ensures.is.ascends c.requires.place

pub returns-clause-put : goal.returns-clause-put
returns-clause-put g c is_root b rs used same can =
    let e = c.len.ensures.length in
    let r = c.len.ensures.range in
    let f = c.if-len-lt-MOST_RECORDS.false in
    leaf_split (record {
      inside = c.requires.page.1;
      many = g.met.S.PageStore.as_many c.args.store.now;
      gap = subst (λ (l : List Record). IsGap c.args.r.now.key l c.args.i) same c.requires.place;
    })
    (record {
      full = subst (λ (l : List Record). length l ≡ 144) same (omega arith);
      is_left = c.bytes-2.ensures.leaf ∙ ap Some
          (c.insert_split-right.ensures.left ∙ ap (λ (l : List Record). take 72 (insert l c.args.i c.args.r.now)) same);
      is_right =
          c.bytes-3.ensures.leaf ∙ ap Some (c.insert_split-right.ensures.right ∙ ap (λ (l : List Record). drop 72 (insert l c.args.i c.args.r.now)) same);
      begins = subst (λ (l : List Record). slice_get l 0 ≡ Some c.rec.result)
          (c.insert_split-right.ensures.right ∙ ap (λ (l : List Record). drop 72 (insert l c.args.i c.args.r.now)) same) c.rec.ensures;
      is_key = refl;
    })
    c.in_ok-new.ensures.page.1 c.in_ok-new.ensures.free c.in_ok-new.ensures.taken c.in_ok-new.ensures.told can

pub returns-in_err-write_page-clause-left : goal.returns-in_err-write_page-clause-left
returns-in_err-write_page-clause-left g c = edits_more _ 1 0 (edits_err _ c.from_residual.ensures.1 c.in_err-write_page.ensures.left)

pub returns-then-len-lt-MOST_RECORDS-clause-left : goal.returns-then-len-lt-MOST_RECORDS-clause-left
returns-then-len-lt-MOST_RECORDS-clause-left g c = edits_more _ 1 0 (edits_ok _ _ c.in_ok-write_page.ensures.left)

pub returns-in_err-new-clause-left : goal.returns-in_err-new-clause-left
returns-in_err-new-clause-left g c = edits_err _ c.from_residual-in_err-new.ensures.1 c.in_err-new.ensures.left

pub returns-clause-left : goal.returns-clause-left
returns-clause-left g c = edits_ok _ _ c.in_ok-new.ensures.left
