use Rattle.std.proofs.Common.{◌≡◌, ◌≤◌, ◌+◌, ◌-◌, ◌&&◌, eqb, ltb, leb, min, subst, arith}
use Rattle.quilt_poly.specs.Edges.{edge_of, crosses}
use Rattle.quilt_poly.specs.Bits.{IsMarked}
use Rattle.quilt_poly.specs.Crossings.{IsCrossing}
use Rattle.quilt_poly.proofs.Crossed.{column_few, behind_last, from_first, row_above, IsCrossing-up}
use Rattle.quilt_poly.proofs.Marks.{IsMarked-none, IsMarked-both, IsMarked-same}
use Rattle.quilt_poly.proofs.outline.mark_up.Goals as goal

pub loop-y-init : goal.loop-y-init
loop-y-init c =
    let e = c.args.e in
    let s = c.args.side in
    let end : c.end_row-end.result ≡ min s e.bottom.y = c.end_row-end.ensures in
    let inside = c.requires.inside in
    let order = c.requires.order in
    let row : c.end_row-end.result - 1 + 1 ≡ c.end_row-end.result = omega arith in
    record {
      at = subst (λ k. IsCrossing (edge_of e) k c.crossing_at-at.result.column c.crossing_at-at.result.rest) row c.crossing_at-at.ensures;
      marked = IsMarked-none s (λ p. leb c.end_row-end.result p.y && crosses p e) c.args.words.now
          (λ p py. behind_last e p s c.end_row-end.result end py);
    }

pub moved-at-requires : goal.moved-at-requires
moved-at-requires c =
    let e = c.args.e in
    let wide = c.parts_of-parts.ensures.value in
    let at = c.loop-y.invariant.at in
    let rows = at.rows in
    let small = at.small in
    let order = c.requires.order in
    let fits = c.parts_of-parts.ensures.few in
    let ends = c.slope_of-slope.ensures.ends in
    let part = c.slope_of-slope.ensures.small at.height rows in
    let step = c.slope_of-slope.ensures.few in
    let side = c.requires.side in
    let end : c.end_row-end.result ≡ min c.args.side e.bottom.y = c.end_row-end.ensures in
    let le : c.loop-y.y ≤ c.end_row-end.result = c.loop-y.auto.y in
    let few = column_few (edge_of e) c.loop-y.y c.loop-y.at.column c.loop-y.at.rest at ends.0 ends.1 fits (omega arith) order in
    record { width = omega arith; few = few; step = step; rest = omega arith; part = omega arith }

pub loop-y-preserved : goal.loop-y-preserved
loop-y-preserved c =
    let e = c.args.e in
    let s = c.args.side in
    let y = c.loop-y.y - 1 in
    let top : c.from-top.result ≡ e.top.y = c.from-top.ensures in
    let end : c.end_row-end.result ≡ min s e.bottom.y = c.end_row-end.ensures in
    let le : c.loop-y.y ≤ c.end_row-end.result = c.loop-y.auto.y in
    let lt = c.loop-y-test.true in
    let row : c.loop-y.y ≡ c.loop-y.y - 1 + 1 = omega arith in
    let at = subst (λ k. IsCrossing (edge_of e) k c.loop-y.at.column c.loop-y.at.rest) row c.loop-y.invariant.at in
    let marked = subst (λ k. IsMarked s (λ p. leb k p.y && crosses p e) c.args.words.now c.loop-y.words) row c.loop-y.invariant.marked in
    record {
      at = IsCrossing-up (edge_of e) y c.loop-y.at.column c.loop-y.at.rest c.slope_of-slope.result.column c.slope_of-slope.result.rest
          c.parts_of-parts.result c.moved-at.result.column c.moved-at.result.rest c.parts_of-parts.ensures.value c.moved-at.ensures.value c.moved-at.ensures.small
          at (c.slope_of-slope.ensures.left c.requires.left);
      marked = IsMarked-both s (λ p. leb (y + 1) p.y && crosses p e) (λ p. eqb p.y y && ltb p.x c.loop-y.at.column) (λ p. leb y p.y && crosses p e)
          c.args.words.now c.loop-y.words c.mark_row.new.words marked c.mark_row.ensures
          (row_above e y c.loop-y.at.column c.loop-y.at.rest at (omega arith) (omega arith));
    }

pub returns : goal.returns
returns c =
    let e = c.args.e in
    let s = c.args.side in
    let y = c.loop-y.y in
    let top : c.from-top.result ≡ e.top.y = c.from-top.ensures in
    let le = c.loop-y-test.false in
    IsMarked-same s (λ p. leb y p.y && crosses p e) (λ p. crosses p e) c.args.words.now c.loop-y.words c.loop-y.invariant.marked
    (λ p py. from_first e p y (omega arith))
