use Rattle.std.proofs.Common.{◌≡◌, ◌++◌, true, inl, inr, List, map, length, sym, ◌∙◌, ap, subst, arith, All, get_or}
use Rattle.std.proofs.lemmas.List.{append-nil}
use Rattle.quilt_point_laws.specs.Spreading.{spread}
use Rattle.quilt_points.specs.Layers.{point_entries, block_record}
use Rattle.std.proofs.lemmas.Result.{on_ok_weaker}
use Rattle.std.proofs.lemmas.List.Elements.{All-filter}
use Rattle.quilt_types.specs.declared.plane.Point.{Point}
use Rattle.quilt_types.specs.Plane.{in_block, is_pixel}
use Rattle.quilt_loc.proofs.Blocks.{IsBlock-up}
use Rattle.quilt_points.proofs.Quarters.{quarter_at}
use Rattle.quilt_points.proofs.plans.Deltas.{spread_next, spread_all, spread_few, part_half}
use Rattle.quilt_points.proofs.delta.+spread.Goals as goal
use Rattle.quilt_points.proofs.delta.+spread.Goals.{then-points-from-via-then-points-from, then-points-from-via-else-points-from+then-b-le1}

pub returns-then-points-from : goal.returns-then-points-from
returns-then-points-from t c =
    on_ok_weaker c.add_held.result
    (λ is. spread_few c.args.layer.level c.args.layer.bucket c.args.layer.number c.args.points.now c.args.b c.args.records.now.items
    c.add_held.new.records.items is
    (elim c.then-points-from.branch [
      | then-points-from-via-then-points-from w ↦ let few = w.if-points-from.true in let same = c.from.ensures in inl (omega arith)
      | then-points-from-via-else-points-from+then-b-le1 w ↦ inr w.if-b-le1.true
    ]))
    c.add_held.ensures

pub quarters-q-items-requires-clause-valid : goal.quarters-q-items-requires-clause-valid
quarters-q-items-requires-clause-valid t c = IsBlock-up c.args.layer.level 12 c.args.b c.args.layer.has_level.1 c.requires.block

pub loop-q-init : goal.loop-q-init
loop-q-init t c = λ k s. sym (append-nil c.args.records.now.items)

pub covered-requires : goal.covered-requires
covered-requires t c =
    let q = quarter_at c.args.layer.level c.args.b c.quarters-q-items.result c.loop-q.q-index
    (record { y = 0; x = 0; side = 0 }) c.requires.block c.if-b-le1.false c.quarters-q-items.ensures.value c.loop-q-test.true in
    IsBlock-up c.args.layer.level 12 _ c.args.layer.has_level.1 q.block

pub spread-requires : goal.spread-requires
spread-requires t c =
    let q = quarter_at c.args.layer.level c.args.b c.quarters-q-items.result c.loop-q.q-index
    (record { y = 0; x = 0; side = 0 }) c.requires.block c.if-b-le1.false c.quarters-q-items.ensures.value c.loop-q-test.true in
    let half = q.half in (
      omega arith,
      (
        q.block,
        subst (All (λ (p : Point). is_pixel c.args.layer.level p.at ≡ true)) (sym (c.deref.ensures.value ∙ c.in_ok-here.ensures))
            (All-filter (λ (p : Point). in_block (get_or c.quarters-q-items.result c.loop-q.q-index (record { y = 0; x = 0; side = 0 })) p.at)
            (λ (p : Point). is_pixel c.args.layer.level p.at ≡ true) c.args.points.now c.requires.points),
      ),
    )

pub loop-q-preserved : goal.loop-q-preserved
loop-q-preserved t c =
    spread_next c.args.layer.level c.args.layer.bucket c.args.layer.number c.args.points.now c.args.b c.quarters-q-items.result c.loop-q.q-index
    (record { y = 0; x = 0; side = 0 }) c.in_ok-here.here.items c.args.records.now.items c.loop-q.records.items c.spread.new.records.items
    (let lt = c.loop-q-test.true in let four = ap length c.quarters-q-items.ensures.value in omega arith) c.in_ok-here.ensures
    (part_half c.args.layer.level c.args.b c.quarters-q-items.result c.loop-q.q-index
    (record { y = 0; x = 0; side = 0 }) c.requires.block c.if-b-le1.false c.quarters-q-items.ensures.value c.loop-q-test.true)
    (λ k s. c.in_ok-spread.ensures k s
    ∙ ap (λ (l : List Point). c.loop-q.records.items ++ map (block_record c.args.layer.level c.args.layer.bucket c.args.layer.number)
    (spread c.args.layer.bucket k (get_or c.quarters-q-items.result c.loop-q.q-index (record { y = 0; x = 0; side = 0 })) (point_entries l)))
    c.deref.ensures.value) c.loop-q.invariant

pub returns : goal.returns
returns t c =
    let few = c.if-points-from.false in
    let same = c.from.ensures in
    spread_all c.args.layer.level c.args.layer.bucket c.args.layer.number c.args.points.now c.args.b c.quarters-q-items.result c.loop-q.q-index
    c.args.records.now.items c.loop-q.records.items c.quarters-q-items.ensures.value (let end = c.loop-q-test.false in
    let four = ap length c.quarters-q-items.ensures.value in omega arith) (omega arith) c.if-b-le1.false c.loop-q.invariant
