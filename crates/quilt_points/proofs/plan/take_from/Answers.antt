use Rattle.std.proofs.Common.{◌≡◌, true, not, List, filter, All, sym, ◌∙◌, ap, subst}
use Rattle.std.proofs.lemmas.Result.{IfOk-weaker, IfErr-weaker}
use Rattle.std.proofs.lemmas.List.Elements.{All-filter}
use Rattle.quilt_types.specs.declared.plane.Point.{Point}
use Rattle.quilt_types.specs.Plane.{is_pixel}
use Rattle.quilt_types.specs.Facts.{same_pixel}
use Rattle.quilt_store.proofs.Reading.{only_reads_free}
use Rattle.quilt_points.specs.Climbing.{IsOnWay}
use Rattle.quilt_points.proofs.plans.Dels.{way_first}
use Rattle.quilt_points.proofs.Bounds.{if_ok_of}
use Rattle.quilt_btree.proofs.Handed.{handed_on}
use Rattle.quilt_btree.proofs.ways.Damage.{zero_named}
use Rattle.quilt_points.proofs.plan.take_from.Goals as goal

pub topmost-requires-clause-pixels : goal.topmost-requires-clause-pixels
topmost-requires-clause-pixels g c =
    subst (All (λ (p : Point). is_pixel c.args.layer.level p.at ≡ true))
    (sym (c.in-Ok.ensures ∙ ap (filter (λ (q : Point). not (same_pixel q.at c.args.p.at))) c.deref.ensures.value))
    (All-filter (λ (q : Point). not (same_pixel q.at c.args.p.at)) (λ (p : Point). is_pixel c.args.layer.level p.at ≡ true)
    c.args.leaf.points.items c.requires.pixels)

pub returns-in_err-top-clause-sound : goal.returns-in_err-top-clause-sound
returns-in_err-top-clause-sound g c =
    rw (handed_on c.from_residual.result c.from_residual.ensures.1) (λ points h is on some. c.in_err-top.ensures.sound points h)

pub returns-clause-plan : goal.returns-clause-plan
returns-clause-plan g c =
    let others_is = c.in-Ok.ensures ∙ ap (filter (λ (q : Point). not (same_pixel q.at c.args.p.at))) c.deref.ensures.value in
    IfOk-weaker c.take_out.result _ _ (λ edits f points h is on some. f points h.spelled.valid some
    (subst (λ (held : List Point). IsOnWay c.args.layer.level c.args.layer.bucket points c.args.p.at c.in_ok-top.top.block held)
    (sym c.deref-2.ensures.value)
    (c.in_ok-top.ensures.top points c.args.p.at c.args.p.label h some
    (way_first points c.args.p.at c.args.p.label some c.args.layer.level c.args.layer.bucket c.args.leaf.block c.args.leaf.points.items is on
    c.in-Ok.points.items others_is)))
    (c.in_ok-top.ensures.last points c.args.p.at c.args.p.label h some
    (way_first points c.args.p.at c.args.p.label some c.args.layer.level c.args.layer.bucket c.args.leaf.block c.args.leaf.points.items is on
    c.in-Ok.points.items others_is))) c.take_out.ensures.plan

pub returns-clause-sound : goal.returns-clause-sound
returns-clause-sound g c =
    let others_is = c.in-Ok.ensures ∙ ap (filter (λ (q : Point). not (same_pixel q.at c.args.p.at))) c.deref.ensures.value in
    IfErr-weaker c.take_out.result _ _ (λ e f points h is on some. f points h.spelled.valid some
    (subst (λ (held : List Point). IsOnWay c.args.layer.level c.args.layer.bucket points c.args.p.at c.in_ok-top.top.block held)
    (sym c.deref-2.ensures.value)
    (c.in_ok-top.ensures.top points c.args.p.at c.args.p.label h some
    (way_first points c.args.p.at c.args.p.label some c.args.layer.level c.args.layer.bucket c.args.leaf.block c.args.leaf.points.items is on
    c.in-Ok.points.items others_is)))
    (c.in_ok-top.ensures.last points c.args.p.at c.args.p.label h some
    (way_first points c.args.p.at c.args.p.label some c.args.layer.level c.args.layer.bucket c.args.leaf.block c.args.leaf.points.items is on
    c.in-Ok.points.items others_is))) c.take_out.ensures.sound

pub returns-clause-reads : goal.returns-clause-reads
returns-clause-reads g c = if_ok_of c.take_out.result c.in_ok-top.ensures.reads

pub returns-clause-zero : goal.returns-clause-zero
returns-clause-zero g c = IfErr-weaker c.take_out.result _ _ (λ e zero rs is. zero) c.take_out.ensures.zero

pub returns-clause-bad : goal.returns-clause-bad
returns-clause-bad g c = zero_named c.take_out.result _ _ _ c.take_out.ensures.zero

pub returns-clause-left : goal.returns-clause-left
returns-clause-left g c = only_reads_free _ c.take_out.result c.in_ok-top.ensures.left c.take_out.ensures.no_fault

pub returns-in_err-top-clause-zero : goal.returns-in_err-top-clause-zero
returns-in_err-top-clause-zero g c = rw (handed_on c.from_residual.result c.from_residual.ensures.1) c.in_err-top.ensures.zero

pub returns-in_err-top-clause-bad : goal.returns-in_err-top-clause-bad
returns-in_err-top-clause-bad g c = rw (handed_on c.from_residual.result c.from_residual.ensures.1) c.in_err-top.ensures.bad
