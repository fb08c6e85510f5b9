use Rattle.std.proofs.Common.{arith}
use Rattle.std.proofs.lemmas.Option.{get_or_from_slice_get}
use Rattle.quilt_poly.proofs.Listed.{next_ring}
use Rattle.quilt_poly.proofs.edges.edges_of.Goals as goal

pub loop-i-preserved : goal.loop-i-preserved
loop-i-preserved c =
    let rings = c.args.rings.now in
    let ring = c.corners.result.now in
    let lt = c.loop-i-test.true in
    let all = c.len-i-end.ensures in
    next_ring c.loop-i.edges.items c.push_ring.new.edges.items rings c.loop-i.i ring (omega arith)
    (get_or_from_slice_get rings c.loop-i.i ring ring c.corners.ensures) c.loop-i.invariant c.in_ok-push_ring.ensures
