use Rattle.std.proofs.Common.{[], List, Contains, ◌∙◌, refl, sym, ap, subst, arith}
use Rattle.std.proofs.lemmas.Result.{IfOk-weaker, IfErr-weaker}
use Rattle.quilt_record.specs.declared.record.Record.{Record}
use Rattle.quilt_store.proofs.Reading.{only_reads_free}
use Rattle.quilt_points.specs.Reads.{AreRecordsOf}
use Rattle.quilt_points.proofs.Bounds.{if_ok_of, reads_range}
use Rattle.quilt_points.proofs.Finds.{if_some_weaker}
use Rattle.quilt_points.proofs.Ranges.{rows_read, range_there}
use Rattle.quilt_btree.proofs.Handed.{handed_on}
use Rattle.quilt_btree.proofs.Stops.{sound_handed}
use Rattle.quilt_btree.proofs.ways.Damage.{zero_named}
use Rattle.quilt_points.proofs.leaf.points_of.Goals as goal

pub returns-in_err-records-clause-sound : goal.returns-in_err-records-clause-sound
returns-in_err-records-clause-sound g c =
    rw (handed_on c.from_residual.result c.from_residual.ensures.1) (λ points h. c.in_err-records.ensures.sound h.records h.tree)

pub returns-clause-read : goal.returns-clause-read
returns-clause-read g c =
    IfOk-weaker c.points_said.result _ _ (λ o f points h. f points h.spelled.valid
    (subst (AreRecordsOf c.args.layer.level c.args.layer.bucket c.args.layer.number points c.args.b) (sym c.deref.ensures.value)
    (rows_read (g.S.PageStore.told c.args.store.now) c.args.tree.now c.args.layer.number c.args.layer.level c.args.layer.bucket points c.args.b _ _
    c.in_ok-records.records.items _
    c.args.layer.has_level.1 c.requires.block (ap (λ (r : Record). r.key) (c.point_record.ensures.written []))
    refl c.from.ensures c.in_ok-records.ensures.range h))) c.points_said.ensures.read

pub returns-clause-sound : goal.returns-clause-sound
returns-clause-sound g c =
    IfErr-weaker c.points_said.result _ _ (λ o f points h. f points h.spelled.valid
    (subst (AreRecordsOf c.args.layer.level c.args.layer.bucket c.args.layer.number points c.args.b) (sym c.deref.ensures.value)
    (rows_read (g.S.PageStore.told c.args.store.now) c.args.tree.now c.args.layer.number c.args.layer.level c.args.layer.bucket points c.args.b _ _
    c.in_ok-records.records.items _
    c.args.layer.has_level.1 c.requires.block (ap (λ (r : Record). r.key) (c.point_record.ensures.written []))
    refl c.from.ensures c.in_ok-records.ensures.range h))) c.points_said.ensures.sound

pub returns-clause-reads : goal.returns-clause-reads
returns-clause-reads g c =
    if_ok_of c.points_said.result
    (reads_range _ c.args.layer.bucket _ _ (let most = c.in_ok-records.ensures.fits.number in let is = c.from.ensures in omega (arith, most, is)) c.in_ok-records.ensures.reads)

pub returns-clause-row : goal.returns-clause-row
returns-clause-row g c =
    IfOk-weaker c.points_said.result _ _
    (λ o f. if_some_weaker o _ _ (λ v h rs is. record {
      held = h.held;
      row = h.row;
      there = range_there _ _ _ rs h.row (subst (λ (l : List Record). Contains l h.row) (c.deref.ensures.value ∙ c.in_ok-records.ensures.range rs is) h.there);
      is_row = h.is_row;
    }) f) c.points_said.ensures.row

pub returns-in_err-records-clause-zero : goal.returns-in_err-records-clause-zero
returns-in_err-records-clause-zero g c = sound_handed c.from_residual.result c.from_residual.ensures.1 c.in_err-records.ensures.sound

pub returns-clause-zero : goal.returns-clause-zero
returns-clause-zero g c = IfErr-weaker c.points_said.result _ _ (λ e zero rs is. zero) c.points_said.ensures.zero

pub returns-in_err-records-clause-bad : goal.returns-in_err-records-clause-bad
returns-in_err-records-clause-bad g c =
    rw (handed_on c.from_residual.result c.from_residual.ensures.1) c.in_err-records.ensures.stops.bad

pub returns-clause-bad : goal.returns-clause-bad
returns-clause-bad g c = zero_named c.points_said.result _ _ _ c.points_said.ensures.zero

pub returns-clause-left : goal.returns-clause-left
returns-clause-left g c = only_reads_free _ c.points_said.result c.in_ok-records.ensures.left c.points_said.ensures.no_fault
