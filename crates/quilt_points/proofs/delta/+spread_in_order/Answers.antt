use Rattle.std.proofs.Common.{◌≡◌, ◌≤◌, ◌<◌, true, false, inl, inr, List, drop, take, length, get_or, sym, ◌∙◌, ◌-◌, ap, subst, arith, All}
use Rattle.std.proofs.lemmas.List.{append-nil}
use Rattle.std.proofs.lemmas.List.Elements.{All-drop, All-take}
use Rattle.std.proofs.lemmas.Result.{on_ok_weaker}
use Rattle.quilt_types.specs.declared.plane.Block.{Block}
use Rattle.quilt_types.specs.declared.plane.Point.{Point}
use Rattle.quilt_types.specs.Plane.{in_block, is_pixel}
use Rattle.quilt_loc.proofs.Blocks.{IsBlock-up}
use Rattle.quilt_points.specs.Coding.{AreInCodeOrder}
use Rattle.quilt_points.proofs.Quarters.{quarter_at}
use Rattle.quilt_points.proofs.Codings.{rest_is, InOrder-take}
use Rattle.quilt_points.proofs.plans.Deltas.{spread_next, spread_all, spread_few, part_half}
use Rattle.quilt_points.proofs.plans.Parts.{split_none, rest_order, part_is, split_next}
use Rattle.quilt_points.proofs.plans.Scatters.{pixels_up}
use Rattle.quilt_points.proofs.delta.+spread_in_order.Goals as goal
use Rattle.quilt_points.proofs.delta.+spread_in_order.Goals.{then-points-from-via-then-points-from, then-points-from-via-else-points-from+then-b-le1}

pub returns-then-points-from : goal.returns-then-points-from
returns-then-points-from t c =
    on_ok_weaker c.add_held.result
    (λ is. spread_few c.args.layer.level c.args.layer.bucket c.args.layer.number c.args.points.now c.args.b c.args.records.now.items
    c.add_held.new.records.items is
    (elim c.then-points-from.branch [
      | then-points-from-via-then-points-from w ↦ let few = w.if-points-from.true in let same = c.from.ensures in inl (omega arith)
      | then-points-from-via-else-points-from+then-b-le1 w ↦ inr w.if-b-le1.true
    ]))
    c.add_held.ensures

pub quarters-q-items-requires-clause-valid : goal.quarters-q-items-requires-clause-valid
quarters-q-items-requires-clause-valid t c = IsBlock-up c.args.layer.level 12 c.args.b c.args.layer.has_level.1 c.requires.block

pub loop-q-init : goal.loop-q-init
loop-q-init t c = record {
  split = split_none c.args.b c.quarters-q-items.result c.args.points.now c.quarters-q-items.ensures.value c.requires.order.least;
  records = λ k s. sym (append-nil c.args.records.now.items);
}

pub count_in-count-requires-clause-block : goal.count_in-count-requires-clause-block
count_in-count-requires-clause-block t c =
    let q = quarter_at c.args.layer.level c.args.b c.quarters-q-items.result c.loop-q.q-index
    (record { y = 0; x = 0; side = 0 }) c.requires.block c.if-b-le1.false c.quarters-q-items.ensures.value c.loop-q-test.true in
    IsBlock-up c.args.layer.level 12 _ c.args.layer.has_level.1 q.block

pub count_in-count-requires-clause-points : goal.count_in-count-requires-clause-points
count_in-count-requires-clause-points t c =
    subst (All (λ (p : Point). is_pixel 12 p.at ≡ true)) (sym (rest_is c.loop-q.done c.args.points.now))
    (All-drop (λ (p : Point). is_pixel 12 p.at ≡ true) c.loop-q.done c.args.points.now
    (pixels_up c.args.layer.level c.args.layer.has_level.1 c.args.points.now c.requires.points))

pub count_in-count-requires-clause-order : goal.count_in-count-requires-clause-order
count_in-count-requires-clause-order t c =
    let d : Block = record { y = 0; x = 0; side = 0 } in
    subst (AreInCodeOrder (get_or c.quarters-q-items.result c.loop-q.q-index d)) (sym (rest_is c.loop-q.done c.args.points.now))
    (rest_order c.args.layer.level c.args.layer.has_level.1 c.args.b c.requires.block c.if-b-le1.false c.quarters-q-items.result
    c.quarters-q-items.ensures.value c.loop-q.q-index c.loop-q-test.true d c.args.points.now c.requires.order.rises c.requires.points
    c.loop-q.done c.loop-q.invariant.split)

pub spread_in_order-requires : goal.spread_in_order-requires
spread_in_order-requires t c =
    let d : Block = record { y = 0; x = 0; side = 0 } in
    let q = quarter_at c.args.layer.level c.args.b c.quarters-q-items.result c.loop-q.q-index
    d c.requires.block c.if-b-le1.false c.quarters-q-items.ensures.value c.loop-q-test.true in
    let half = q.half in
    let rest = sym (rest_is c.loop-q.done c.args.points.now) in
    let count = c.count_in-count.result in (
      omega arith,
      (
        q.block,
        (
          subst (λ (l : List Point). All (λ (p : Point). is_pixel c.args.layer.level p.at ≡ true) (take count l)) rest
              (All-take (λ (p : Point). is_pixel c.args.layer.level p.at ≡ true) count (drop c.loop-q.done c.args.points.now)
              (All-drop (λ (p : Point). is_pixel c.args.layer.level p.at ≡ true) c.loop-q.done c.args.points.now c.requires.points)),
          subst (λ (l : List Point). AreInCodeOrder (get_or c.quarters-q-items.result c.loop-q.q-index d) (take count l)) rest
              (InOrder-take (get_or c.quarters-q-items.result c.loop-q.q-index d) count (drop c.loop-q.done c.args.points.now)
              (rest_order c.args.layer.level c.args.layer.has_level.1 c.args.b c.requires.block c.if-b-le1.false c.quarters-q-items.result
              c.quarters-q-items.ensures.value c.loop-q.q-index c.loop-q-test.true d c.args.points.now c.requires.order.rises c.requires.points
              c.loop-q.done c.loop-q.invariant.split)),
        ),
      ),
    )

pub loop-q-preserved : goal.loop-q-preserved
loop-q-preserved t c =
    let d : Block = record { y = 0; x = 0; side = 0 } in
    let lt = c.loop-q-test.true in
    let four = ap length c.quarters-q-items.ensures.value in
    let rest = rest_is c.loop-q.done c.args.points.now in
    let q = get_or c.quarters-q-items.result c.loop-q.q-index d in
    let count = c.count_in-count.result in
    let most = subst (λ (l : List Point). count ≤ length l) rest c.count_in-count.ensures.most in
    let inside = subst (λ (l : List Point). All (λ (p : Point). in_block q p.at ≡ true) (take count l)) rest c.count_in-count.ensures.inside in
    let behind = subst (λ (l : List Point). count < length l → (e : Point) → in_block q (get_or l count e).at ≡ false) rest c.count_in-count.ensures.behind in
    record {
      split = split_next c.args.layer.level c.args.layer.has_level.1 c.args.b c.requires.block c.if-b-le1.false c.quarters-q-items.result
          c.quarters-q-items.ensures.value c.loop-q.q-index lt d c.args.points.now c.requires.order.rises c.requires.points
          c.loop-q.done c.loop-q.invariant.split count most inside behind;
      records = spread_next c.args.layer.level c.args.layer.bucket c.args.layer.number c.args.points.now c.args.b c.quarters-q-items.result c.loop-q.q-index
          d (take count (take (length c.args.points.now - c.loop-q.done) (drop c.loop-q.done c.args.points.now)))
          c.args.records.now.items c.loop-q.records.items c.spread_in_order.new.records.items (omega arith)
          (ap (take count) rest
          ∙ part_is c.args.layer.level c.args.layer.has_level.1 c.args.b c.requires.block c.if-b-le1.false c.quarters-q-items.result
          c.quarters-q-items.ensures.value c.loop-q.q-index lt d c.args.points.now c.requires.order.rises c.requires.points
          c.loop-q.done c.loop-q.invariant.split count most inside behind)
          (part_half c.args.layer.level c.args.b c.quarters-q-items.result c.loop-q.q-index d c.requires.block c.if-b-le1.false
          c.quarters-q-items.ensures.value lt)
          c.in_ok-spread_in_order.ensures c.loop-q.invariant.records;
    }

pub returns : goal.returns
returns t c =
    let few = c.if-points-from.false in
    let same = c.from.ensures in
    spread_all c.args.layer.level c.args.layer.bucket c.args.layer.number c.args.points.now c.args.b c.quarters-q-items.result c.loop-q.q-index
    c.args.records.now.items c.loop-q.records.items c.quarters-q-items.ensures.value (let end = c.loop-q-test.false in
    let four = ap length c.quarters-q-items.ensures.value in omega arith) (omega arith) c.if-b-le1.false c.loop-q.invariant.records
