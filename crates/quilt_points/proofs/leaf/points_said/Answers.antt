use Rattle.std.proofs.Common.{List, [], length, take, sym, ap, subst, arith, eqb-true}
use Rattle.std.proofs.lemmas.List.{take_all}
use Rattle.std.proofs.lemmas.Result.{err_from_is_err_and}
use Rattle.quilt_record.specs.declared.record.Record.{Record}
use Rattle.quilt_points.specs.Reads.{AreSaid}
use Rattle.quilt_edits.proofs.Lists.{member_at, take_next}
use Rattle.quilt_points.proofs.Said.{said_none, said_more, row_there, rows_some, said_held, nonzero}
use Rattle.quilt_points.proofs.leaf.points_said.Goals as goal

pub returns-then-is_empty-clause-read : goal.returns-then-is_empty-clause-read
returns-then-is_empty-clause-read c points valid rows mb =
    rows_some c.args.layer.level c.args.layer.bucket c.args.layer.number points c.args.b c.args.records.now rows
    (eqb-true (length c.args.records.now) 0 (sym c.if-is_empty.ensures)) mb

pub loop-r-init : goal.loop-r-init
loop-r-init c = record {
  said = subst (AreSaid c.args.layer.level c.args.layer.bucket c.args.layer.number c.args.b []) (sym c.new-points.ensures.items)
      (said_none c.args.layer.level c.args.layer.bucket c.args.layer.number c.args.b);
  row = λ lt. absurd (omega arith);
  pixels = λ k d lt. let none = ap length c.new-points.ensures.items in absurd (omega arith);
}

pub returns-in_err-add_point-clause-sound : goal.returns-in_err-add_point-clause-sound
returns-in_err-add_point-clause-sound c =
    let p = err_from_is_err_and c.from_residual.result c.from_residual.ensures.1 in
    rw (p.1, p.2) (λ points valid rows. let w = row_there c.args.layer.level c.args.layer.bucket c.args.layer.number points c.args.b c.args.layer.has_number.0 c.args.layer.has_number.1
    valid c.args.records.now rows _ (member_at c.args.records.now c.loop-r.r-index _ c.loop-r-test.true) in
    c.in_err-add_point.ensures.sound w.0 w.1)

pub loop-r-preserved : goal.loop-r-preserved
loop-r-preserved c =
    let h = c.in_ok-add_point.ensures.added in
    record {
      said =
          subst (λ (seen : List Record). AreSaid c.args.layer.level c.args.layer.bucket c.args.layer.number c.args.b seen
          c.add_point.new.points.items) (sym (take_next c.args.records.now c.loop-r.r-index _ c.loop-r-test.true))
          (subst (AreSaid c.args.layer.level c.args.layer.bucket c.args.layer.number c.args.b _) (sym h.2)
          (said_more c.args.layer.level c.args.layer.bucket c.args.layer.number c.args.b (take c.loop-r.r-index c.args.records.now)
          c.loop-r.points.items _ h.0 c.args.layer.has_level.1 c.loop-r.invariant.said h.1));
      row = λ _. record {
        held = h.0;
        row = _;
        there = member_at c.args.records.now c.loop-r.r-index (record { key = record { layer = 0; part = 0; code = 0; depth = 0; item = 0 }; value = [] }) c.loop-r-test.true;
        is_row = h.1;
      };
      pixels = c.in_ok-add_point.ensures.pixels c.loop-r.invariant.pixels;
    }

pub returns-clause-read : goal.returns-clause-read
returns-clause-read c points valid rows =
    said_held c.args.layer.level c.args.layer.bucket c.args.layer.number points c.args.b c.args.layer.has_level.1 c.args.layer.has_number.0
    c.args.layer.has_number.1 valid c.args.records.now (nonzero (length c.args.records.now) c.if-is_empty.ensures) rows c.loop-r.points.items
    (subst (λ (seen : List Record). AreSaid c.args.layer.level c.args.layer.bucket c.args.layer.number c.args.b seen c.loop-r.points.items)
    (take_all c.loop-r.r-index c.args.records.now (omega arith)) c.loop-r.invariant.said)

pub returns-clause-pixels : goal.returns-clause-pixels
returns-clause-pixels c = c.loop-r.invariant.pixels

pub returns-clause-row : goal.returns-clause-row
returns-clause-row c = c.loop-r.invariant.row
    (let some = nonzero (length c.args.records.now) c.if-is_empty.ensures in let over = c.loop-r-test.false in omega arith)
