use Rattle.std.proofs.Common.{Some, sym, ◌∙◌, ap}
use Rattle.std.proofs.lemmas.Option.{none-some, some_pair_parts}
use Rattle.quilt_lines.proofs.Lookups.{none_found, found}
use Rattle.quilt_lines.proofs.Saying.{segment_at, none_at}
use Rattle.quilt_btree.proofs.Handed.{handed_on}
use Rattle.quilt_btree.proofs.Stops.{sound_handed}
use Rattle.quilt_lines.proofs.view.LineView.segment_from.Goals as goal

pub returns-in_err-value-clause-sound : goal.returns-in_err-value-clause-sound
returns-in_err-value-clause-sound g c =
    rw (handed_on c.from_residual.result c.from_residual.ensures.1) (λ t segs cover h. c.in_err-value.ensures.sound h.records h.is_tree)

pub returns-in_default-clause-segment : goal.returns-in_default-clause-segment
returns-in_default-clause-segment g c t segs cover h =
    none_found (g.S.PageStore.told c.args.store.now) c.args.self.now.tree c.args.self.now.layer c.args.self.now.level t segs cover c.args.id _ _
    c.segment_key-key.ensures c.in_ok-value.ensures.value h c.in_default.is

pub returns-in-Some-segment_said-clause-segment : goal.returns-in-Some-segment_said-clause-segment
returns-in-Some-segment_said-clause-segment g c t segs cover h =
    let f = found (g.S.PageStore.told c.args.store.now) c.args.self.now.tree c.args.self.now.layer c.args.self.now.level t segs cover c.args.id _ _
    c.segment_key-key.ensures c.in_ok-value.ensures.value h _ c.in-Some.is
    c.args.self.now.has_level.1 c.segment_said.result c.segment_said.ensures.one in
    ap Some (some_pair_parts c.in-Some-segment_said.field-0-0 c.args.id c.in-Some-segment_said.s f.seg (sym c.in-Some-segment_said.is ∙ f.is_said)).1 ∙ sym f.got

pub returns-in-None-clause-sound : goal.returns-in-None-clause-sound
returns-in-None-clause-sound g c t segs cover h page e =
    let f = found (g.S.PageStore.told c.args.store.now) c.args.self.now.tree c.args.self.now.layer c.args.self.now.level t segs cover c.args.id _ _
    c.segment_key-key.ensures c.in_ok-value.ensures.value h _ c.in-Some.is
    c.args.self.now.has_level.1 c.segment_said.result c.segment_said.ensures.one in
    none-some (c.args.id, f.seg) (sym c.in-None.is ∙ f.is_said)

pub returns-in_err-value-clause-zero : goal.returns-in_err-value-clause-zero
returns-in_err-value-clause-zero g c = sound_handed c.from_residual.result c.from_residual.ensures.1 c.in_err-value.ensures.sound

pub returns-in_default-clause-said : goal.returns-in_default-clause-said
returns-in_default-clause-said g c rs is =
    none_at c.args.self.now.layer rs c.args.id _ _ c.segment_key-key.ensures (c.in_ok-value.ensures.value rs is) c.in_default.is

pub returns-in-Some-segment_said-clause-said : goal.returns-in-Some-segment_said-clause-said
returns-in-Some-segment_said-clause-said g c rs is =
    segment_at c.args.self.now.level c.args.self.now.layer rs c.args.id c.segment_key-key.result c.in-Some.value c.in_ok-value.field-0
    (c.in-Some-segment_said.field-0-0, c.in-Some-segment_said.s) c.segment_key-key.ensures (c.in_ok-value.ensures.value rs is) c.in-Some.is c.in-Some-segment_said.ensures.some

pub returns-in_err-value-clause-bad : goal.returns-in_err-value-clause-bad
returns-in_err-value-clause-bad g c =
    rw (handed_on c.from_residual.result c.from_residual.ensures.1) (λ ne. c.in_err-value.ensures.bad)
