use Rattle.std.proofs.Common.{ℕ, ◌*◌, [], ◌∷◌, List, All, length, get_or, sym, ◌∙◌, ap, subst, arith, length-append}
use Rattle.std.proofs.lemmas.List.Elements.{All-append}
use Rattle.quilt_store.proofs.Reading.{only_reads_then, read_on, only_reads_err}
use Rattle.quilt_types.specs.declared.plane.Seg.{Seg}
use Rattle.quilt_edits.proofs.Lists.{member_at}
use Rattle.quilt_lines.specs.Said.{SaySegment}
use Rattle.quilt_lines.proofs.Listed.{all_one}
use Rattle.quilt_lines.proofs.Lookups.{lines_along}
use Rattle.quilt_lines.proofs.Spots.{spot_along}
use Rattle.quilt_lines.proofs.Sums.{reads_sum}
use Rattle.quilt_lines.proofs.Taken.{taken_more}
use Rattle.quilt_btree.proofs.Handed.{handed_on}
use Rattle.quilt_btree.proofs.Stops.{tree_along, zero_handed, bad_handed}
use Rattle.quilt_lines.proofs.view.LineView.segments.Goals as goal

pub returns-in_err-add_segment-clause-sound : goal.returns-in_err-add_segment-clause-sound
returns-in_err-add_segment-clause-sound g c =
    rw (handed_on c.from_residual.result c.from_residual.ensures.1)
    (λ t segs cover h all. let w = all _ (member_at c.args.ids.now c.loop-id.id-index _ c.loop-id-test.true) in
    c.in_err-add_segment.ensures.sound t segs cover
    (lines_along _ _ c.args.self.now.tree c.args.self.now.layer c.args.self.now.level t segs cover c.loop-id.invariant.left.told h) w.0 w.1)

pub loop-id-preserved : goal.loop-id-preserved
loop-id-preserved g c =
    let a = c.in_ok-add_segment.ensures.added in
    let id = get_or c.args.ids.now c.loop-id.id-index _ in
    let more : List (ℕ × Seg) = (id, a.0) ∷ [] in
    let longer = ap length a.1 ∙ length-append c.loop-id.list more in
    record {
      taken = taken_more c.args.ids.now c.loop-id.id-index _ a.0 _ c.loop-id.invariant.taken c.loop-id-test.true a.1 a.2
          (λ x h. a.3 x.0 x.1 x.2
          (lines_along _ _ c.args.self.now.tree c.args.self.now.layer c.args.self.now.level x.0 x.1 x.2 c.loop-id.invariant.left.told h));
      said = λ rs is.
          let P = λ (e : ℕ × Seg). SaySegment c.args.self.now.level c.args.self.now.layer rs e.0 e.1 in
          subst (All P) (sym a.1) (All-append P c.loop-id.list more (c.loop-id.invariant.said rs is)
          (all_one P (id, a.0) (a.4 rs (tree_along _ _ c.args.self.now.tree rs c.loop-id.invariant.left.told is))));
      spot = spot_along _ _ c.args.self.now.tree c.add_segment.new.spot (sym c.loop-id.invariant.left.told) c.in_ok-add_segment.ensures.spot;
      left = read_on _ g.met.S.PageStore.goes_on _ _ _ c.loop-id.invariant.left c.in_ok-add_segment.ensures.left;
      reads = reads_sum _ _ _ (3 * length c.loop-id.list) 3 (3 * length c.add_segment.new.list) (omega arith) c.loop-id.invariant.reads c.in_ok-add_segment.ensures.reads;
    }

pub returns-in_err-add_segment-clause-left : goal.returns-in_err-add_segment-clause-left
returns-in_err-add_segment-clause-left g c =
    rw (handed_on c.from_residual.result c.from_residual.ensures.1)
    (only_reads_err _ (only_reads_then _ g.met.S.PageStore.goes_on _ _ _ c.loop-id.invariant.left c.in_err-add_segment.ensures.left))

pub returns-in_err-add_segment-clause-zero : goal.returns-in_err-add_segment-clause-zero
returns-in_err-add_segment-clause-zero g c =
    zero_handed _ c.from_residual.result c.from_residual.ensures.1 c.args.self.now.tree c.loop-id.invariant.left.told c.in_err-add_segment.ensures.zero

pub returns-clause-found : goal.returns-clause-found
returns-clause-found g c t segs cover h = c.loop-id.invariant.taken.found (t, segs, cover) h

pub returns-in_err-add_segment-clause-bad : goal.returns-in_err-add_segment-clause-bad
returns-in_err-add_segment-clause-bad g c =
    bad_handed _ c.from_residual.result c.from_residual.ensures.1 c.args.self.now.tree c.loop-id.invariant.left.told c.in_err-add_segment.ensures.bad
