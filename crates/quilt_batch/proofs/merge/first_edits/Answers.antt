use Rattle.std.proofs.Common.{◌≡◌, true, List, ◌∷◌, ◌++◌, [], drop, length, length-append, sym, ◌∙◌, ap, subst, arith}
use Rattle.std.proofs.lemmas.Bool.{false≢true}
use Rattle.quilt_record.specs.declared.record.Record.{Record}
use Rattle.quilt_node.specs.Pages.{is_ascending}
use Rattle.quilt_btree.specs.declared.edit.Edit.{Edit}
use Rattle.quilt_btree.specs.Batches.{edit_keys}
use Rattle.quilt_btree.proofs.batches.Leaves.{keys-append}
use Rattle.quilt_batch.specs.Merges.{StartsMerge, goes_of, comes_of}
use Rattle.quilt_batch.proofs.Goings.{HasMerged, merged_more, next_ascends}
use Rattle.quilt_batch.proofs.Parts.{lists_behind, part_of, starts_more}
use Rattle.quilt_batch.proofs.merge.first_edits.Goals as goal

pub returns-then-not-is_past-clause-none : goal.returns-then-not-is_past-clause-none
returns-then-not-is_past-clause-none c none old new =
    false≢true (sym c.if-not-is_past.true ∙ c.follows-is_past.ensures
    ∙ next_ascends c.args.removed.now c.args.added.now c.loop-edit.batch c.loop-edit.goes.now c.loop-edit.comes.now c.in-Some.edit
    c.loop-edit.invariant.merged c.in-Some.ensures old new)

pub returns-then-edits-most-clause-part : goal.returns-then-edits-most-clause-part
returns-then-edits-most-clause-part c =
    part_of c.args.removed.now c.args.added.now c.loop-edit.batch c.loop-edit.goes.now c.loop-edit.comes.now c.loop-edit.invariant.merged
    c.loop-edit.invariant.starts c.loop-edit.invariant.ascends
    (lists_behind (edit_keys c.loop-edit.batch) c.in-Some.edit c.loop-edit.goes.now c.loop-edit.comes.now c.in-Some.ensures
    (sym c.follows-is_past.ensures ∙ c.if-not-is_past.false))

pub returns-then-not-is_in-clause-none : goal.returns-then-not-is_in-clause-none
returns-then-not-is_in-clause-none c none old new =
    false≢true (sym c.if-not-is_in.true ∙ c.in_ok-is_in.ensures.takes
    ∙ next_ascends c.args.removed.now c.args.added.now c.loop-edit.batch c.loop-edit.goes.now c.loop-edit.comes.now c.in-Some.edit
    c.loop-edit.invariant.merged c.in-Some.ensures old new)

pub loop-edit-preserved : goal.loop-edit-preserved
loop-edit-preserved c =
    let og = c.args.removed.now in
    let oc = c.args.added.now in
    let run = c.loop-edit.batch in
    let e = c.in-Some.edit in
    let goes = c.loop-edit.goes.now in
    let comes = c.loop-edit.comes.now in
    let left : c.behind-goes.result.now ≡ drop (goes_of e) goes = c.behind-goes.ensures ∙ ap (λ n. drop n goes) c.going.ensures in
    let coming : c.behind-comes.result.now ≡ drop (comes_of e) comes = c.behind-comes.ensures ∙ ap (λ n. drop n comes) c.coming.ensures in
    let is : c.push.new.self ≡ run ++ e ∷ [] = c.in_ok-is_in.ensures.added c.if-not-is_in.false in
    record {
      merged = subst (λ (l : List Edit). HasMerged og oc l c.behind-goes.result.now c.behind-comes.result.now) (sym is)
          (subst (λ (l : List Record). HasMerged og oc (run ++ e ∷ []) l c.behind-comes.result.now) (sym left)
          (subst (λ (l : List Record). HasMerged og oc (run ++ e ∷ []) (drop (goes_of e) goes) l) (sym coming)
          (merged_more og oc run goes comes e c.loop-edit.invariant.merged c.in-Some.ensures)));
      starts = subst (λ (l : List Edit). StartsMerge og oc l c.behind-goes.result.now c.behind-comes.result.now) (sym is)
          (starts_more og oc run e goes comes c.behind-goes.result.now c.behind-comes.result.now c.loop-edit.invariant.starts c.in-Some.ensures);
      ascends = ap (λ (l : List Edit). is_ascending (edit_keys l)) is ∙ ap is_ascending (keys-append run (e ∷ []))
          ∙ sym c.in_ok-is_in.ensures.takes ∙ c.if-not-is_in.false;
      few = let size = ap length is ∙ length-append run (e ∷ []) in let h = c.loop-edit.invariant.few in let f = c.if-edits-most.false in
          let same = ap length c.edits.ensures.edits in omega arith;
    }
