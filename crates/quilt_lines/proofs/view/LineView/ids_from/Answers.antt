use Rattle.std.proofs.Common.{[], ◌≡◌, ◌+◌, ◌*◌, ◌≤◌, List, length, refl, ◌∙◌, ap, subst, arith}
use Rattle.std.specs.Prelude.{MatchOption, vec_len}
use Rattle.std.proofs.lemmas.Result.{IfOk-weaker, IfErr-weaker}
use Rattle.quilt_record.specs.declared.record.Record.{Record}
use Rattle.quilt_store.proofs.Reading.{only_reads_free}
use Rattle.quilt_near.proofs.Telling.{tells_weaker}
use Rattle.quilt_lines.specs.Said.{SayIds}
use Rattle.quilt_lines.proofs.Ranges.{block_read}
use Rattle.quilt_lines.proofs.Results.{if_ok_both}
use Rattle.quilt_lines.proofs.Saying.{read_at}
use Rattle.quilt_lines.proofs.Sums.{reads_ids}
use Rattle.quilt_btree.proofs.Handed.{handed_on}
use Rattle.quilt_btree.proofs.Stops.{sound_handed}
use Rattle.quilt_btree.proofs.ways.Damage.{zero_named}
use Rattle.quilt_lines.proofs.view.LineView.ids_from.Goals as goal

pub returns-in_err-records-clause-sound : goal.returns-in_err-records-clause-sound
returns-in_err-records-clause-sound g c =
    rw (handed_on c.from_residual.result c.from_residual.ensures.1) (λ t segs cover h. c.in_err-records.ensures.sound h.records h.is_tree)

pub returns-clause-ids : goal.returns-clause-ids
returns-clause-ids g c =
    IfOk-weaker c.ids_said.result _ _ (λ o f t segs cover h. f segs cover
    (c.deref.ensures.value ∙ block_read (g.S.PageStore.told c.args.store.now) c.args.self.now.tree c.args.self.now.layer c.args.self.now.level t segs
    cover _ _ c.in_ok-records.records.items c.requires.rooted.height c.in_ok-records.ensures.range h
    c.args.self.now.has_level.1 c.args.b c.requires.block (ap (λ (r : Record). r.key) (c.pair_record.ensures.written [])) refl)) c.ids_said.ensures.ids

pub returns-clause-sound : goal.returns-clause-sound
returns-clause-sound g c =
    IfErr-weaker c.ids_said.result _ _ (λ e f t segs cover h. f segs cover
    (c.deref.ensures.value ∙ block_read (g.S.PageStore.told c.args.store.now) c.args.self.now.tree c.args.self.now.layer c.args.self.now.level t segs
    cover _ _ c.in_ok-records.records.items c.requires.rooted.height c.in_ok-records.ensures.range h
    c.args.self.now.has_level.1 c.args.b c.requires.block (ap (λ (r : Record). r.key) (c.pair_record.ensures.written [])) refl)) c.ids_said.ensures.sound

pub returns-in_err-records-clause-zero : goal.returns-in_err-records-clause-zero
returns-in_err-records-clause-zero g c = sound_handed c.from_residual.result c.from_residual.ensures.1 c.in_err-records.ensures.sound

pub returns-clause-zero : goal.returns-clause-zero
returns-clause-zero g c = IfErr-weaker c.ids_said.result _ _ (λ e zero rs is. zero) c.ids_said.ensures.zero

pub returns-clause-said : goal.returns-clause-said
returns-clause-said g c =
    let n = c.args.self.now.level in
    let layer = c.args.self.now.layer in
    IfOk-weaker c.ids_said.result _ _ (λ o f rs is.
    subst (λ (records : List Record). MatchOption o (records ≡ []) (λ ids. SayIds n layer c.args.b records ids.items))
    (c.deref.ensures.value ∙ read_at (g.S.PageStore.told c.args.store.now) c.args.self.now.tree c.in_ok-records.records.items _ _ c.in_ok-records.ensures.range rs is n layer
    c.args.b (ap (λ (r : Record). r.key) (c.pair_record.ensures.written [])) refl) f) c.ids_said.ensures.said

pub returns-clause-reads : goal.returns-clause-reads
returns-clause-reads g c =
    let len = c.deref.ensures.len in
    if_ok_both c.ids_said.result _ _ _ (λ o said few.
    reads_ids vec_len (λ ids. SayIds c.args.self.now.level c.args.self.now.layer c.args.b c.deref.result.now ids.items) c.deref.result.now _ _ o said few
    (tells_weaker (λ x y. y ≤ x + 6 + 3 * vec_len c.in_ok-records.records) (λ x y. y ≤ x + 6 + 3 * length c.deref.result.now) (λ x y le. omega arith) _ _
    c.in_ok-records.ensures.reads)) c.ids_said.ensures.said c.ids_said.ensures.few

pub returns-in_err-records-clause-bad : goal.returns-in_err-records-clause-bad
returns-in_err-records-clause-bad g c =
    rw (handed_on c.from_residual.result c.from_residual.ensures.1) (λ ne. c.in_err-records.ensures.stops.bad ne)

pub returns-clause-bad : goal.returns-clause-bad
returns-clause-bad g c =
    zero_named c.ids_said.result (g.S.PageStore.told c.args.store.now) c.args.self.now.tree.height c.args.self.now.tree.root c.ids_said.ensures.zero

pub returns-clause-left : goal.returns-clause-left
returns-clause-left g c = only_reads_free _ c.ids_said.result c.in_ok-records.ensures.left c.ids_said.ensures.no_fault
