use Rattle.std.proofs.Common.{◌≡◌, ◌+◌, ◌*◌, ◌≤◌, List, All, length, sym, ◌∙◌, subst, arith, vec_len}
use Rattle.quilt_record.specs.declared.record.Record.{Record}
use Rattle.quilt_near.proofs.Telling.{tells_weaker}
use Rattle.std.proofs.lemmas.Result.{IfOk-weaker, IfErr-weaker}
use Rattle.quilt_lines.proofs.Ranges.{segments_read}
use Rattle.quilt_lines.proofs.Saying.{read_segments, all_of_layer}
use Rattle.quilt_lines.specs.Said.{SaySegments}
use Rattle.quilt_btree.proofs.Handed.{handed_on}
use Rattle.quilt_btree.proofs.Stops.{sound_handed}
use Rattle.quilt_btree.proofs.ways.Damage.{zero_named}
use Rattle.quilt_lines.proofs.segments.scan.Goals as goal

pub returns-in_err-records-clause-sound : goal.returns-in_err-records-clause-sound
returns-in_err-records-clause-sound g c =
    rw (handed_on c.from_residual.result c.from_residual.ensures.1) (λ t segs cover h. c.in_err-records.ensures.sound h.records h.is_tree)

pub returns-clause-segments : goal.returns-clause-segments
returns-clause-segments g c =
    IfOk-weaker c.all_segments.result _ _ (λ o f t segs cover h. f t segs cover h.spelled.valid
    (c.deref.ensures.value ∙ segments_read (g.S.PageStore.told c.args.store.now) c.args.tree.now c.args.layer c.args.level t segs cover _ _
    c.in_ok-records.records.items c.requires.rooted.height c.in_ok-records.ensures.range h
    c.segment_key-low.ensures c.segment_key-high.ensures)) c.all_segments.ensures.segments

pub returns-clause-sound : goal.returns-clause-sound
returns-clause-sound g c =
    IfErr-weaker c.all_segments.result _ _ (λ e f t segs cover h. f t segs cover h.spelled.valid
    (c.deref.ensures.value ∙ segments_read (g.S.PageStore.told c.args.store.now) c.args.tree.now c.args.layer c.args.level t segs cover _ _
    c.in_ok-records.records.items c.requires.rooted.height c.in_ok-records.ensures.range h
    c.segment_key-low.ensures c.segment_key-high.ensures)) c.all_segments.ensures.sound

pub returns-in_err-records-clause-zero : goal.returns-in_err-records-clause-zero
returns-in_err-records-clause-zero g c = sound_handed c.from_residual.result c.from_residual.ensures.1 c.in_err-records.ensures.sound

pub returns-clause-zero : goal.returns-clause-zero
returns-clause-zero g c = IfErr-weaker c.all_segments.result _ _ (λ e zero rs is. zero) c.all_segments.ensures.zero

pub returns-clause-said : goal.returns-clause-said
returns-clause-said g c =
    let same = c.deref.ensures.value in
    IfOk-weaker c.all_segments.result _ _ (λ list f rs is.
    subst (λ (records : List Record). SaySegments c.args.level c.args.layer records list)
    (same ∙ read_segments (g.S.PageStore.told c.args.store.now) c.args.tree.now c.in_ok-records.records.items _ _ c.in_ok-records.ensures.range rs is c.args.layer
    c.segment_key-low.ensures c.segment_key-high.ensures)
    (f (subst (All (λ (r : Record). r.key.layer ≡ c.args.layer)) (sym same)
    (all_of_layer c.args.layer _ _ c.in_ok-records.records.items c.segment_key-low.ensures c.segment_key-high.ensures c.in_ok-records.ensures.within)))) c.all_segments.ensures.said

pub returns-clause-reads : goal.returns-clause-reads
returns-clause-reads g c =
    let len = c.deref.ensures.len in
    IfOk-weaker c.all_segments.result _ _ (λ list many.
    tells_weaker (λ x y. y ≤ x + 6 + 3 * vec_len c.in_ok-records.records) (λ x y. y ≤ x + 6 + 3 * length list) (λ x y le. omega arith) _ _ c.in_ok-records.ensures.reads)
    c.all_segments.ensures.many

pub returns-in_err-records-clause-bad : goal.returns-in_err-records-clause-bad
returns-in_err-records-clause-bad g c =
    rw (handed_on c.from_residual.result c.from_residual.ensures.1) (λ ne. c.in_err-records.ensures.bad ne)

pub returns-clause-bad : goal.returns-clause-bad
returns-clause-bad g c =
    zero_named c.all_segments.result (g.S.PageStore.told c.args.store.now) c.args.tree.now.height c.args.tree.now.root c.all_segments.ensures.zero
