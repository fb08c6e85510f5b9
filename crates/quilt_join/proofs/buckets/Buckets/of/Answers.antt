use Rattle.std.proofs.Common.{ℕ, ◌^◌, take, arith, sym, ◌∙◌, subst}
use Rattle.std.specs.Prelude.{slice_index_or}
use Rattle.std.proofs.lemmas.List.{take_more}
use Rattle.quilt_types.specs.declared.plane.Seg.{Seg}
use Rattle.quilt_join.specs.Boxes.{span_at, count}
use Rattle.quilt_join.specs.Buckets.{AreFilled, HasBucketed}
use Rattle.quilt_join.proofs.Spans.{number_below}
use Rattle.quilt_join.proofs.Fillings.{filled_more}
use Rattle.quilt_join.proofs.buckets.Buckets.of.Goals as goal

abbrev no_seg : ℕ × Seg
no_seg = (0, record { x1 = 0; y1 = 0; x2 = 0; y2 = 0 })

pub put-requires : goal.put-requires
put-requires c =
    let i = c.loop-id.invariant in
    let e = slice_index_or c.args.list.now c.loop-id.id-index no_seg in
    let inside = c.requires.ends c.loop-id.id-index no_seg c.loop-id-test.true in
    record {
      fits = rw (i.shift, i.columns) (λ place lt. omega (
        arith,
        number_below c.args.level e.1
            (2 ^ c.args.shift) c.columns_of-columns.result place inside i.filled.positive c.columns_of-columns.ensures.whole lt,
        i.filled.size,
      ));
    }

pub loop-id-preserved : goal.loop-id-preserved
loop-id-preserved c =
    let i = c.loop-id.invariant in
    let e = slice_index_or c.args.list.now c.loop-id.id-index no_seg in
    let old = c.loop-id.buckets.lists.items in
    let new = c.put.new.self.lists.items in
    let put : HasBucketed (span_at (2 ^ c.args.shift) e.1) c.columns_of-columns.result (count (span_at (2 ^ c.args.shift) e.1)) old new e = rw
    (i.shift, i.columns) at c.in_ok-put.ensures.put in
    record {
      shift = c.put.ensures.shift ∙ i.shift;
      columns = c.put.ensures.columns ∙ i.columns;
      filled = subst (AreFilled (2 ^ c.args.shift) c.columns_of-columns.result new) (sym
          (take_more c.args.list.now c.loop-id.id-index no_seg c.loop-id-test.true))
          (filled_more (2 ^ c.args.shift) c.columns_of-columns.result old new (take c.loop-id.id-index c.args.list.now) e i.filled put);
    }
