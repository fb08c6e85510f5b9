use Rattle.std.proofs.Common.{ℕ, ◌*◌, length, refl, ◌∙◌, arith}
use Rattle.std.proofs.lemmas.List.{length-set}
use Rattle.quilt_store.proofs.Reading.{only_reads_then, only_reads_same, read_on, only_reads_err}
use Rattle.quilt_types.specs.Quadtrees.{point_blocks}
use Rattle.quilt_loc.proofs.Blocks.{Holds-from}
use Rattle.quilt_loc.proofs.Intervals.{code_held}
use Rattle.quilt_points.proofs.Finds.{has_along}
use Rattle.quilt_points.proofs.Countings.{seen_none, seen_next, all_counted, few_seen, tells_more, tells_less, tells_none, whole_end, pixel_inside, zeros_at}
use Rattle.quilt_points.proofs.Countings.{zeros_le, counts_most}
use Rattle.quilt_btree.proofs.Handed.{handed_on}
use Rattle.quilt_btree.proofs.Stops.{zero_handed, bad_handed}
use Rattle.quilt_points.proofs.counts.block_counts.Goals as goal

pub loop-code-init : goal.loop-code-init
loop-code-init g c = record {
  long = refl;
  most = λ k. zeros_le 13 k 0;
  seen = λ points h.
      let s = seen_none c.args.level c.args.bucket points _ (λ k le. zeros_at 13 k) in
      let none = s.1 in
      (s.0, tells_less 0 _ _ _ (omega arith) (tells_none (g.S.PageStore.reads c.args.store.now)));
  left = only_reads_same _ tt _ (g.met.S.PageStore.same_time _);
}

pub pixel_of-requires : goal.pixel_of-requires
pixel_of-requires g c =
    let e = whole_end c.args.level c.whole_square.result c.requires.level.1 c.whole_square.ensures in
    let most = e.1 in
    let value = c.end_of-end.ensures.value in
    let lt = c.loop-code-test.true in
    omega arith

pub block_around-requires-clause-in_x : goal.block_around-requires-clause-in_x
block_around-requires-clause-in_x g c =
    let e = (whole_end c.args.level c.whole_square.result c.requires.level.1 c.whole_square.ensures).0 in
    let value = c.end_of-end.ensures.value in
    let lt = c.loop-code-test.true in
    let at = c.pixel_of.ensures.value in
    (pixel_inside c.args.level c.pixel_of.result c.requires.level.1 c.pixel_of.ensures.in_x c.pixel_of.ensures.in_y (omega arith)).0

pub block_around-requires-clause-in_y : goal.block_around-requires-clause-in_y
block_around-requires-clause-in_y g c =
    let e = (whole_end c.args.level c.whole_square.result c.requires.level.1 c.whole_square.ensures).0 in
    let value = c.end_of-end.ensures.value in
    let lt = c.loop-code-test.true in
    let at = c.pixel_of.ensures.value in
    (pixel_inside c.args.level c.pixel_of.result c.requires.level.1 c.pixel_of.ensures.in_x c.pixel_of.ensures.in_y (omega arith)).1

pub returns-in_err-b-clause-sound : goal.returns-in_err-b-clause-sound
returns-in_err-b-clause-sound g c =
    rw (handed_on c.from_residual.result c.from_residual.ensures.1)
    (λ points h. c.in_err-b.ensures.sound points (has_along _ _ c.args.tree.now c.args.layer c.args.level c.args.bucket points c.loop-code.invariant.left.told h))

pub loop-code-preserved : goal.loop-code-preserved
loop-code-preserved g c =
    let long = c.loop-code.invariant.long in
    let small = c.exponent_of.ensures.most in
    let held = code_held c.args.level c.in_ok-b.b c.pixel_of.result c.in_ok-b.ensures.block c.requires.level.1
    (Holds-from c.in_ok-b.b c.pixel_of.result c.in_ok-b.ensures.holds) in
    let under = held.1 in
    let at = c.pixel_of.ensures.value in
    let to = c.end_of-code.ensures.value in
    record {
      long = length-set {A = ℕ} _ _ _ ∙ c.loop-code.invariant.long;
      most = λ k. counts_most c.loop-code.counts c.exponent_of.result k c.loop-code.code c.end_of-code.result c.loop-code.invariant.most
          (omega arith) (omega arith);
      seen = λ points h.
          let s = c.loop-code.invariant.seen points h in
          let read = c.in_ok-b.ensures.read points (has_along _ _ c.args.tree.now c.args.layer c.args.level c.args.bucket points
          c.loop-code.invariant.left.told h) in
          let more =
          seen_next c.args.level c.args.bucket points c.requires.level.1 c.loop-code.code c.loop-code.counts s.0 c.pixel_of.result c.in_ok-b.b
          c.exponent_of.result c.end_of-code.result to read.block (Holds-from c.in_ok-b.b c.pixel_of.result c.in_ok-b.ensures.holds) at small
          c.exponent_of.ensures.value long in
          let length_is = more.1 in
          (more.0, tells_more (6 * length (s.0).blocks) 6 _ _ _ _ (omega arith) s.1 c.in_ok-b.ensures.reads);
      left = read_on _ g.met.S.PageStore.goes_on _ _ _ c.loop-code.invariant.left c.in_ok-b.ensures.left;
    }

pub returns-clause-counts : goal.returns-clause-counts
returns-clause-counts g c points h k le =
    let e = (whole_end c.args.level c.whole_square.result c.requires.level.1 c.whole_square.ensures).0 in
    let whole = whole_end c.args.level _ c.requires.level.1 refl in
    let all = whole.0 in
    let value = c.end_of-end.ensures.value in
    let end = c.loop-code-test.false in
    all_counted c.args.level c.args.bucket points c.requires.level.1 c.loop-code.code c.loop-code.counts
    (c.loop-code.invariant.seen points h).0 (omega arith) k le

pub returns-clause-reads : goal.returns-clause-reads
returns-clause-reads g c points h =
    let s = c.loop-code.invariant.seen points h in
    let few = few_seen c.args.level c.args.bucket points c.requires.level.1 c.loop-code.code c.loop-code.counts s.0 in
    tells_less (6 * length (s.0).blocks) (6 * length (point_blocks c.args.level c.args.bucket points)) _ _ (omega arith) s.1

pub returns-in_err-b-clause-left : goal.returns-in_err-b-clause-left
returns-in_err-b-clause-left g c =
    rw (handed_on c.from_residual.result c.from_residual.ensures.1)
    (only_reads_err _ (only_reads_then _ g.met.S.PageStore.goes_on _ _ _ c.loop-code.invariant.left c.in_err-b.ensures.left))

pub returns-in_err-b-clause-zero : goal.returns-in_err-b-clause-zero
returns-in_err-b-clause-zero g c =
    zero_handed _ c.from_residual.result c.from_residual.ensures.1 c.args.tree.now c.loop-code.invariant.left.told c.in_err-b.ensures.zero

pub returns-in_err-b-clause-bad : goal.returns-in_err-b-clause-bad
returns-in_err-b-clause-bad g c =
    bad_handed _ c.from_residual.result c.from_residual.ensures.1 c.args.tree.now c.loop-code.invariant.left.told c.in_err-b.ensures.bad
