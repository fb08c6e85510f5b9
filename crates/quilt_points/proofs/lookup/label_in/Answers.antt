use Rattle.std.proofs.Common.{[], None, refl, sym, ◌∙◌, ap}
use Rattle.std.proofs.lemmas.Option.{none-some}
use Rattle.quilt_record.specs.declared.record.Record.{Record}
use Rattle.quilt_points.proofs.Finds.{if_some_at, none_read, label_read, label_same, label_none, label_some}
use Rattle.quilt_btree.proofs.Handed.{handed_on}
use Rattle.quilt_btree.proofs.Stops.{sound_handed}
use Rattle.quilt_points.proofs.lookup.label_in.Goals as goal

pub returns-in_err-value-clause-sound : goal.returns-in_err-value-clause-sound
returns-in_err-value-clause-sound g c =
    rw (handed_on c.from_residual.result c.from_residual.ensures.1) (λ points h m t. c.in_err-value.ensures.sound h.records h.tree)

pub returns-in_default-clause-label : goal.returns-in_default-clause-label
returns-in_default-clause-label g c points h m t =
    none_read (g.S.PageStore.told c.args.store.now) c.args.tree.now c.args.layer.number c.args.layer.level c.args.layer.bucket points c.args.b
    c.args.at _ _ c.args.layer.has_number.0 c.args.layer.has_number.1 c.args.layer.has_level.1 c.requires.bucket
    (ap (λ (r : Record). r.key) (c.point_record-like.ensures.written []))
    c.in_ok-value.ensures.value h m c.requires.pixel t c.in_default.is

pub returns-in-Some-point_of-clause-label : goal.returns-in-Some-point_of-clause-label
returns-in-Some-point_of-clause-label g c points h m t =
    label_same points c.args.at c.point_of.result c.in-Some-point_of.p c.in-Some-point_of.is
    (label_read (g.S.PageStore.told c.args.store.now) c.args.tree.now c.args.layer.number c.args.layer.level c.args.layer.bucket points c.args.b
    c.args.at _ _ c.args.layer.has_number.0 c.args.layer.has_number.1 c.args.layer.has_level.1 c.requires.bucket
    (ap (λ (r : Record). r.key) (c.point_record-like.ensures.written []))
    c.in_ok-value.ensures.value h m c.requires.pixel t c.in-Some.value c.in-Some.is c.point_of.result c.point_of.ensures.point)

pub returns-in-None-clause-sound : goal.returns-in-None-clause-sound
returns-in-None-clause-sound g c points h m t page e =
    let i = label_read (g.S.PageStore.told c.args.store.now) c.args.tree.now c.args.layer.number c.args.layer.level c.args.layer.bucket points
    c.args.b c.args.at _ _ c.args.layer.has_number.0 c.args.layer.has_number.1 c.args.layer.has_level.1 c.requires.bucket
    (ap (λ (r : Record). r.key) (c.point_record-like.ensures.written []))
    c.in_ok-value.ensures.value h m c.requires.pixel t c.in-Some.value c.in-Some.is c.point_of.result c.point_of.ensures.point in
    none-some _ (sym c.in-None.is ∙ i.is)

pub returns-in_default-clause-answered : goal.returns-in_default-clause-answered
returns-in_default-clause-answered g c rs is =
    label_none c.args.layer.level c.args.layer.bucket c.args.layer.number rs c.args.b c.args.at _ _ None refl
    (ap (λ (r : Record). r.key) (c.point_record-like.ensures.written [])) (c.in_ok-value.ensures.value rs is) c.in_default.is

pub returns-in-Some-point_of-clause-answered : goal.returns-in-Some-point_of-clause-answered
returns-in-Some-point_of-clause-answered g c rs is =
    label_some c.args.layer.level c.args.layer.bucket c.args.layer.number rs c.args.b c.args.at _ _ c.in-Some.value c.in-Some-point_of.p
    (ap (λ (r : Record). r.key) (c.point_record-like.ensures.written [])) (c.in_ok-value.ensures.value rs is) c.in-Some.is
    (if_some_at c.point_of.result _ c.in-Some-point_of.p c.in-Some-point_of.is c.point_of.ensures.row)

pub returns-in_err-value-clause-zero : goal.returns-in_err-value-clause-zero
returns-in_err-value-clause-zero g c = sound_handed c.from_residual.result c.from_residual.ensures.1 c.in_err-value.ensures.sound

pub returns-in_err-value-clause-bad : goal.returns-in_err-value-clause-bad
returns-in_err-value-clause-bad g c =
    rw (handed_on c.from_residual.result c.from_residual.ensures.1) (λ ne. c.in_err-value.ensures.bad)
