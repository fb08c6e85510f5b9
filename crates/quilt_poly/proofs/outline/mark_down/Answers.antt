use Rattle.std.proofs.Common.{◌≡◌, ◌≤◌, ◌+◌, ◌&&◌, eqb, ltb, min, sym, subst, arith}
use Rattle.quilt_poly.specs.Edges.{edge_of, crosses}
use Rattle.quilt_poly.specs.Bits.{IsMarked}
use Rattle.quilt_poly.proofs.Crossed.{column_few, before_first, up_to_last, row_below, IsCrossing-down}
use Rattle.quilt_poly.proofs.Marks.{IsMarked-none, IsMarked-both, IsMarked-same}
use Rattle.quilt_poly.proofs.outline.mark_down.Goals as goal

pub loop-y-init : goal.loop-y-init
loop-y-init c =
    let e = c.args.e in
    let top : c.from-top.result ≡ e.top.y = c.from-top.ensures in
    record {
      at = c.crossing_at-at.ensures;
      marked = subst (λ k. IsMarked c.args.side (λ p. ltb p.y k && crosses p e) c.args.words.now c.args.words.now) (sym top)
          (IsMarked-none c.args.side (λ p. ltb p.y e.top.y && crosses p e) c.args.words.now (λ p py. before_first e p));
    }

pub moved-at-requires : goal.moved-at-requires
moved-at-requires c =
    let e = c.args.e in
    let wide = c.parts_of-parts.ensures.value in
    let at = c.loop-y.invariant.at in
    let rows = at.rows in
    let small = at.small in
    let order = c.requires.order in
    let fits = c.parts_of-parts.ensures.few in
    let ends = c.slope_of-slope.ensures.ends in
    let part = c.slope_of-slope.ensures.small at.height rows in
    let step = c.slope_of-slope.ensures.few in
    let end : c.end_row-end.result ≡ min c.args.side e.bottom.y = c.end_row-end.ensures in
    let lt = c.loop-y-test.true in
    let few = column_few (edge_of e) (c.loop-y.y + 1) c.loop-y.at.column c.loop-y.at.rest at ends.0 ends.1 fits (omega arith) order in
    record { width = omega arith; few = few; step = step; rest = omega arith; part = omega arith }

pub loop-y-preserved : goal.loop-y-preserved
loop-y-preserved c =
    let e = c.args.e in
    let s = c.args.side in
    let y = c.loop-y.y in
    let at = c.loop-y.invariant.at in
    let top : c.from-top.result ≡ e.top.y = c.from-top.ensures in
    let end : c.end_row-end.result ≡ min s e.bottom.y = c.end_row-end.ensures in
    let low : c.from-top.result ≤ y = c.loop-y.auto.y in
    let lt = c.loop-y-test.true in
    record {
      at = IsCrossing-down (edge_of e) (y + 1) c.loop-y.at.column c.loop-y.at.rest c.slope_of-slope.result.column c.slope_of-slope.result.rest
          c.parts_of-parts.result c.moved-at.result.column c.moved-at.result.rest c.parts_of-parts.ensures.value c.moved-at.ensures.value c.moved-at.ensures.small
          at (c.slope_of-slope.ensures.right c.requires.right);
      marked = IsMarked-both s (λ p. ltb p.y y && crosses p e) (λ p. eqb p.y y && ltb p.x c.loop-y.at.column) (λ p. ltb p.y (y + 1) && crosses p e)
          c.args.words.now c.loop-y.words c.mark_row.new.words c.loop-y.invariant.marked c.mark_row.ensures
          (row_below e y c.loop-y.at.column c.loop-y.at.rest at (omega arith) (omega arith));
    }

pub returns : goal.returns
returns c =
    let e = c.args.e in
    let s = c.args.side in
    let y = c.loop-y.y in
    let end : c.end_row-end.result ≡ min s e.bottom.y = c.end_row-end.ensures in
    let le = c.loop-y-test.false in
    IsMarked-same s (λ p. ltb p.y y && crosses p e) (λ p. crosses p e) c.args.words.now c.loop-y.words c.loop-y.invariant.marked
    (λ p py. up_to_last e p s c.end_row-end.result y end le py)
