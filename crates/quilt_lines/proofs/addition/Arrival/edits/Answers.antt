use Rattle.std.proofs.Common.{◌≡◌, ◌+◌, ◌≤◌, true, [], ◌++◌, ◌∷◌, List, sym, ◌∙◌, ap, subst}
use Rattle.std.proofs.lemmas.Result.{IfErr-weaker}
use Rattle.quilt_record.specs.declared.record.Record.{Record}
use Rattle.quilt_types.specs.declared.plane.Block.{Block}
use Rattle.quilt_types.specs.Plane.{whole}
use Rattle.quilt_types.specs.Quadtrees.{is_reached, reach}
use Rattle.quilt_world.specs.Tale.{Goes}
use Rattle.quilt_near.proofs.Reached.{reached_whole}
use Rattle.quilt_lines.proofs.plans.Additions.{added_whole, add_can, add_plan}
use Rattle.quilt_lines.specs.Bounds.{is_met, due}
use Rattle.quilt_lines.proofs.Costs.{due_whole}
use Rattle.quilt_lines.proofs.Sums.{reads_more}
use Rattle.quilt_lines.proofs.Results.{if_ok_both, memory_sound, if_ok_any}
use Rattle.quilt_btree.proofs.Handed.{handed_on}
use Rattle.quilt_btree.proofs.Stops.{zero_page}
use Rattle.quilt_lines.proofs.addition.Arrival.edits.Goals as goal

pub returns-in_err-add_in-clause-sound : goal.returns-in_err-add_in-clause-sound
returns-in_err-add_in-clause-sound g c =
    rw (handed_on c.from_residual.result c.from_residual.ensures.1) (λ segs cover h new. let self = c.args.self.now in
    let valid = h.spelled.valid in
    c.in_err-add_in.ensures.sound segs cover h
    (subst (λ (b : Block). is_reached cover b ≡ true) (sym c.whole_square-all.ensures)
    (reached_whole self.view.level (record { segs = segs; cover = cover }) (record { inside = valid.inside; each = valid.each; once = valid.once }))))

pub returns-clause-plan : goal.returns-clause-plan
returns-clause-plan g c =
    let self = c.args.self.now in
    let row = c.segment_record-row.ensures self.view.level in
    if_ok_both c.edits_of.result _ _ _ (λ edits pr pa segs cover h new.
    add_plan self.view.level self.view.layer self.t self.view.has_level.1 self.view.has_layer.0 segs cover self.id self.s h.spelled.valid new (row.fits.0)
    self.has_inside
    c.add_in.new.change.gone.items c.add_in.new.change.come.items
    (added_whole self.view.level self.view.layer self.t segs self.id self.s cover c.whole_square-all.result c.new.result.items
    c.add_in.new.change.gone.items c.push.new.self.items c.add_in.new.change.come.items c.segment_record-row.result c.whole_square-all.ensures
    c.new.ensures.items (c.in-Ok.ensures.items ∙ ap (λ (rs : List Record). rs ++ c.segment_record-row.result ∷ []) c.new-2.ensures.items) (row.written [])
    (c.in_ok-add_in.ensures.added segs cover h new self.view.level (ap (λ (b : Block). b.side) c.whole_square-all.ensures)))
    edits pr pa) c.edits_of.ensures.remove c.edits_of.ensures.add

pub returns-clause-sound : goal.returns-clause-sound
returns-clause-sound g c =
    let self = c.args.self.now in
    let row = c.segment_record-row.ensures self.view.level in
    IfErr-weaker c.edits_of.result _ _ (λ e f segs cover h new.
    memory_sound e (f
    (add_can self.view.level self.view.layer self.t self.view.has_level.1 self.view.has_layer.0 segs cover self.id self.s h.spelled.valid new (row.fits.0)
    self.has_inside
    c.add_in.new.change.gone.items c.add_in.new.change.come.items
    (added_whole self.view.level self.view.layer self.t segs self.id self.s cover c.whole_square-all.result c.new.result.items
    c.add_in.new.change.gone.items c.push.new.self.items c.add_in.new.change.come.items c.segment_record-row.result c.whole_square-all.ensures
    c.new.ensures.items (c.in-Ok.ensures.items ∙ ap (λ (rs : List Record). rs ++ c.segment_record-row.result ∷ []) c.new-2.ensures.items) (row.written [])
    (c.in_ok-add_in.ensures.added segs cover h new self.view.level (ap (λ (b : Block). b.side) c.whole_square-all.ensures)))))) c.edits_of.ensures.memory

pub returns-clause-reads : goal.returns-clause-reads
returns-clause-reads g c =
    let self = c.args.self.now in
    if_ok_any c.edits_of.result _ (λ e segs cover h.
    let valid = h.spelled.valid in
    let all = due_whole self.view.level (is_met self.s) segs cover in
    reads_more _ _ (due self.view.level (is_met self.s) segs cover (whole self.view.level)) (reach self.view.level segs cover (is_met self.s)) all
    (subst (λ (b : Block). Goes (λ old new. new ≤ old + due self.view.level (is_met self.s) segs cover b) (g.S.PageStore.reads c.args.store.now)
    (g.S.PageStore.reads c.add_in.new.store)) c.whole_square-all.ensures
    (c.in_ok-add_in.ensures.reads segs cover h
    (subst (λ (b : Block). is_reached cover b ≡ true) (sym c.whole_square-all.ensures)
    (reached_whole self.view.level (record { segs = segs; cover = cover }) (record { inside = valid.inside; each = valid.each; once = valid.once }))))))

pub add_in-requires-clause-search : goal.add_in-requires-clause-search
add_in-requires-clause-search g c =
    let self = c.args.self.now in
    c.new-search.ensures (g.S.PageStore.told c.args.store.now) self.view.tree self.view.level self.view.layer

pub returns-clause-zero : goal.returns-clause-zero
returns-clause-zero g c = IfErr-weaker c.edits_of.result _ _ (λ e zero rs is. zero_page e zero) c.edits_of.ensures.zero

pub returns-in_err-add_in-clause-zero : goal.returns-in_err-add_in-clause-zero
returns-in_err-add_in-clause-zero g c = rw (handed_on c.from_residual.result c.from_residual.ensures.1) c.in_err-add_in.ensures.zero
