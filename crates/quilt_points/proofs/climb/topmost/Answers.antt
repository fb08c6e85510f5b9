use Rattle.std.proofs.Common.{ℕ, ◌+◌, ◌*◌, ◌^◌, ◌∙◌, ap, ⊎_elim, arith}
use Rattle.std.proofs.lemmas.Bool.{cases_lt}
use Rattle.quilt_store.proofs.Reading.{only_reads_then, read_on, only_reads_err, only_reads_ok}
use Rattle.quilt_loc.proofs.Blocks.{side_most}
use Rattle.quilt_loc.proofs.Quartered.{side_le}
use Rattle.quilt_points.proofs.Finds.{has_along, if_some_at}
use Rattle.quilt_points.proofs.Bounds.{times_up, times_most, times_here, level_up, same_level}
use Rattle.quilt_btree.proofs.Handed.{handed_on}
use Rattle.quilt_btree.proofs.Stops.{zero_handed, bad_handed}
use Rattle.quilt_points.proofs.climb.topmost.Goals as goal

pub returns-in_err-up-clause-sound : goal.returns-in_err-up-clause-sound
returns-in_err-up-clause-sound g c =
    rw (handed_on c.from_residual.result c.from_residual.ensures.1)
    (λ points h. c.in_err-up.ensures.sound points (has_along _ _ c.args.tree.now c.args.layer.number c.args.layer.level c.args.layer.bucket points
    c.loop-top.invariant.left.told h))

pub loop-top-smaller : goal.loop-top-smaller
loop-top-smaller g c =
    let wider = if_some_at c.in_ok-up.field-0 _ c.in-Some.up c.in-Some.is c.in_ok-up.ensures.wider in
    let block = if_some_at c.in_ok-up.field-0 _ c.in-Some.up c.in-Some.is c.in_ok-up.ensures.block in
    let most = side_most c.args.layer.level c.args.layer.has_level.1 in
    let le = side_le c.args.layer.level c.in-Some.up.block block in
    omega arith

pub loop-top-preserved : goal.loop-top-preserved
loop-top-preserved g c = record {
  way = λ points p label h some way.
      if_some_at c.in_ok-up.field-0 _ c.in-Some.up c.in-Some.is c.in_ok-up.ensures.up points p label
      (has_along _ _ c.args.tree.now c.args.layer.number c.args.layer.level c.args.layer.bucket points c.loop-top.invariant.left.told h) some
      (c.loop-top.invariant.way points p label h some way);
  block = if_some_at c.in_ok-up.field-0 _ c.in-Some.up c.in-Some.is c.in_ok-up.ensures.block;
  pixels = if_some_at c.in_ok-up.field-0 _ c.in-Some.up c.in-Some.is c.in_ok-up.ensures.pixels;
  reads = (
      let twice = if_some_at c.in_ok-up.field-0 _ c.in-Some.up c.in-Some.is c.in_ok-up.ensures.twice in
      let up = if_some_at c.in_ok-up.field-0 _ c.in-Some.up c.in-Some.is c.in_ok-up.ensures.block in
      times_up (18 + 9 * c.args.layer.bucket) c.loop-top.invariant.block.level up.level _ _ _
      (level_up c.args.layer.level c.loop-top.top.block c.in-Some.up.block c.loop-top.invariant.block up twice)
      c.loop-top.invariant.reads c.in_ok-up.ensures.reads);
  left = read_on _ g.met.S.PageStore.goes_on _ _ _ c.loop-top.invariant.left c.in_ok-up.ensures.left;
}

pub returns-clause-last : goal.returns-clause-last
returns-clause-last g c points p label h some way =
    c.in_ok-up.ensures.last c.in_default.is points p label
    (has_along _ _ c.args.tree.now c.args.layer.number c.args.layer.level c.args.layer.bucket points c.loop-top.invariant.left.told h) some
    (c.loop-top.invariant.way points p label h some way)

pub returns-in_err-up-clause-left : goal.returns-in_err-up-clause-left
returns-in_err-up-clause-left g c =
    rw (handed_on c.from_residual.result c.from_residual.ensures.1)
    (only_reads_err _ (only_reads_then _ g.met.S.PageStore.goes_on _ _ _ c.loop-top.invariant.left c.in_err-up.ensures.left))

pub returns-clause-left : goal.returns-clause-left
returns-clause-left g c = only_reads_ok _ (only_reads_then _ g.met.S.PageStore.goes_on _ _ _ c.loop-top.invariant.left c.in_ok-up.ensures.left) _

pub returns-clause-reads : goal.returns-clause-reads
returns-clause-reads g c =
    let low = c.loop-top.invariant.block.low in
    ⊎_elim
    (λ lt. times_most (18 + 9 * c.args.layer.bucket) c.loop-top.invariant.block.level c.args.layer.level _ _ _ lt c.loop-top.invariant.reads
    c.in_ok-up.ensures.reads)
    (λ ge. times_here (18 + 9 * c.args.layer.bucket) c.loop-top.invariant.block.level c.args.layer.level _ _ _ low c.loop-top.invariant.reads
    (c.in_ok-up.ensures.top (c.loop-top.invariant.block.size ∙ ap (λ (k : ℕ). 2 ^ k) (same_level low ge))))
    (cases_lt c.loop-top.invariant.block.level c.args.layer.level)

pub returns-in_err-up-clause-zero : goal.returns-in_err-up-clause-zero
returns-in_err-up-clause-zero g c =
    zero_handed _ c.from_residual.result c.from_residual.ensures.1 c.args.tree.now c.loop-top.invariant.left.told c.in_err-up.ensures.zero

pub returns-in_err-up-clause-bad : goal.returns-in_err-up-clause-bad
returns-in_err-up-clause-bad g c =
    bad_handed _ c.from_residual.result c.from_residual.ensures.1 c.args.tree.now c.loop-top.invariant.left.told c.in_err-up.ensures.bad
