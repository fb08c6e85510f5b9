use Rattle.std.proofs.Common.{◌+◌, ◌*◌, ◌++◌, [], List, take, drop, length, sym, ap, subst, arith, Contains}
use Rattle.std.proofs.lemmas.List.{take_all, drop_all, length-drop}
use Rattle.std.proofs.lemmas.Result.{err_from_is_err_and}
use Rattle.quilt_store.proofs.Reading.{only_reads_then, only_reads_same, read_on, only_reads_err, only_reads_ok}
use Rattle.quilt_types.specs.declared.plane.Point.{Point}
use Rattle.quilt_record.specs.declared.record.Record.{Record}
use Rattle.quilt_loc.specs.Codes.{Rises}
use Rattle.quilt_points.specs.Coding.{by_code}
use Rattle.quilt_points.specs.Scattering.{IsTaken, IsGrown}
use Rattle.quilt_points.proofs.Finds.{has_along, if_some_at}
use Rattle.quilt_points.proofs.Codings.{rest_is, Rises-drop, Rises-take, dropped_there, take_further, drop_further, pixels_apart}
use Rattle.quilt_points.proofs.plans.Scatters.{grown_none, grown_next, entries_apart}
use Rattle.quilt_world.proofs.ReadCounts.{reads_none}
use Rattle.quilt_points.proofs.Bounds.{times_most, blocks_next, blocks_all}
use Rattle.quilt_btree.proofs.Stops.{zero_handed, bad_handed}
use Rattle.quilt_points.proofs.scatter.grown.Goals as goal

pub loop-done-init : goal.loop-done-init
loop-done-init g c = record {
  grown = λ old h.
      subst (λ (l : List Record). IsGrown c.args.layer.level c.args.layer.number c.args.layer.bucket old [] c.args.news.now l c.in-Ok.delta.with.items)
      (sym c.in-Ok.ensures.without)
      (subst (IsGrown c.args.layer.level c.args.layer.number c.args.layer.bucket old [] c.args.news.now []) (sym c.in-Ok.ensures.with)
      (grown_none c.args.layer.level c.args.layer.number c.args.layer.bucket old c.args.news.now));
  most = omega arith;
  reads = reads_none ((12 + 3 * c.args.layer.bucket) * 0) _;
  left = only_reads_same _ tt _ (g.met.S.PageStore.same_time _);
}

pub add_block-requires-clause-order : goal.add_block-requires-clause-order
add_block-requires-clause-order g c =
    subst (Rises by_code) (sym (rest_is c.loop-done.done c.args.news.now)) (Rises-drop by_code c.loop-done.done c.args.news.now c.requires.order)

pub returns-in_err-count-clause-sound : goal.returns-in_err-count-clause-sound
returns-in_err-count-clause-sound g c =
    let p = err_from_is_err_and c.from_residual.result c.from_residual.ensures.1 in
    rw (p.1, p.2) (λ old h. c.in_err-count.ensures.sound old (has_along _ _ c.args.tree.now c.args.layer.number c.args.layer.level c.args.layer.bucket old c.loop-done.invariant.left.told h))

pub returns-in_default-clause-taken : goal.returns-in_default-clause-taken
returns-in_default-clause-taken g c _ old h =
    let w = c.in_ok-count.ensures.taken c.in_default.is old
    (has_along _ _ c.args.tree.now c.args.layer.number c.args.layer.level c.args.layer.bucket old c.loop-done.invariant.left.told h) in
    (w.0, dropped_there c.args.news.now c.loop-done.done w.0 (subst (λ (l : List Point). Contains l w.0) (rest_is c.loop-done.done c.args.news.now) w.1), w.2)

pub loop-done-preserved : goal.loop-done-preserved
loop-done-preserved g c =
    let number = if_some_at c.in_ok-count.field-0 _ c.in-Some.count c.in-Some.is c.in_ok-count.ensures.count in
    let some = number.0 in
    let most = number.1 in
    let left = length-drop c.loop-done.done c.args.news.now in
    let same = ap length (rest_is c.loop-done.done c.args.news.now) in
    let before = c.loop-done.invariant.most in
    record {
      grown = λ old h.
          let t =
          subst (λ (l : List Point). IsTaken c.args.layer.level c.args.layer.number c.args.layer.bucket old l c.in-Some.count
          c.loop-done.delta.without.items c.add_block.new.delta.without.items c.loop-done.delta.with.items c.add_block.new.delta.with.items)
          (rest_is c.loop-done.done c.args.news.now)
          (if_some_at c.in_ok-count.field-0 _ c.in-Some.count c.in-Some.is c.in_ok-count.ensures.added old
          (has_along _ _ c.args.tree.now c.args.layer.number c.args.layer.level c.args.layer.bucket old c.loop-done.invariant.left.told h)) in
          let alone = entries_apart (take c.in-Some.count (drop c.loop-done.done c.args.news.now))
          (pixels_apart (take c.in-Some.count (drop c.loop-done.done c.args.news.now))
          (Rises-take by_code c.in-Some.count (drop c.loop-done.done c.args.news.now)
          (Rises-drop by_code c.loop-done.done c.args.news.now c.requires.order))) in
          subst (λ (l : List Point). IsGrown c.args.layer.level c.args.layer.number c.args.layer.bucket old l
          (drop (c.loop-done.done + c.in-Some.count) c.args.news.now) c.add_block.new.delta.without.items c.add_block.new.delta.with.items)
          (take_further c.loop-done.done c.in-Some.count c.args.news.now)
          (subst (λ (l : List Point). IsGrown c.args.layer.level c.args.layer.number c.args.layer.bucket old
          (take c.loop-done.done c.args.news.now ++ take c.in-Some.count (drop c.loop-done.done c.args.news.now))
          l c.add_block.new.delta.without.items c.add_block.new.delta.with.items)
          (drop_further c.loop-done.done c.in-Some.count c.args.news.now)
          (grown_next c.args.layer.level c.args.layer.number c.args.layer.bucket old (take c.loop-done.done c.args.news.now)
          (drop c.loop-done.done c.args.news.now) c.loop-done.delta.without.items c.loop-done.delta.with.items
          c.add_block.new.delta.without.items c.add_block.new.delta.with.items c.in-Some.count (c.loop-done.invariant.grown old h) t some
          (omega arith) alone));
      most = omega arith;
      reads = blocks_next (12 + 3 * c.args.layer.bucket) c.loop-done.done c.in-Some.count _ _ _ some c.loop-done.invariant.reads
          c.in_ok-count.ensures.reads;
      left = read_on _ g.met.S.PageStore.goes_on _ _ _ c.loop-done.invariant.left c.in_ok-count.ensures.left;
    }

pub returns-clause-grown : goal.returns-clause-grown
returns-clause-grown g c old h =
    subst (λ (l : List Point). IsGrown c.args.layer.level c.args.layer.number c.args.layer.bucket old l
    [] c.loop-done.delta.without.items c.loop-done.delta.with.items) (take_all c.loop-done.done c.args.news.now (omega arith))
    (subst (λ (l : List Point). IsGrown c.args.layer.level c.args.layer.number c.args.layer.bucket old (take c.loop-done.done c.args.news.now)
    l c.loop-done.delta.without.items c.loop-done.delta.with.items) (drop_all c.loop-done.done c.args.news.now (omega arith))
    (c.loop-done.invariant.grown old h))

pub returns-in_err-count-clause-left : goal.returns-in_err-count-clause-left
returns-in_err-count-clause-left g c =
    let p = err_from_is_err_and c.from_residual.result c.from_residual.ensures.1 in
    rw (p.1, p.2) (only_reads_err _ (only_reads_then _ g.met.S.PageStore.goes_on _ _ _ c.loop-done.invariant.left c.in_err-count.ensures.left))

pub returns-in_default-clause-left : goal.returns-in_default-clause-left
returns-in_default-clause-left g c = only_reads_ok _ (only_reads_then _ g.met.S.PageStore.goes_on _ _ _ c.loop-done.invariant.left c.in_ok-count.ensures.left) _

pub returns-in_default-clause-reads : goal.returns-in_default-clause-reads
returns-in_default-clause-reads g c =
    times_most (12 + 3 * c.args.layer.bucket) c.loop-done.done (length c.args.news.now) _ _ _ c.loop-done-test.true c.loop-done.invariant.reads
    c.in_ok-count.ensures.reads

pub returns-clause-reads : goal.returns-clause-reads
returns-clause-reads g c =
    blocks_all (12 + 3 * c.args.layer.bucket) c.loop-done.done (length c.args.news.now) _ _ c.loop-done.invariant.most c.loop-done.invariant.reads

pub returns-in_err-count-clause-zero : goal.returns-in_err-count-clause-zero
returns-in_err-count-clause-zero g c =
    zero_handed _ c.from_residual.result c.from_residual.ensures.1 c.args.tree.now c.loop-done.invariant.left.told c.in_err-count.ensures.zero

pub returns-in_err-count-clause-bad : goal.returns-in_err-count-clause-bad
returns-in_err-count-clause-bad g c =
    bad_handed _ c.from_residual.result c.from_residual.ensures.1 c.args.tree.now c.loop-done.invariant.left.told c.in_err-count.ensures.bad
