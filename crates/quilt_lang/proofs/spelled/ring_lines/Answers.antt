use Rattle.std.proofs.Common.{arith}
use Rattle.quilt_lang.proofs.Joins.{rings_none, rings_more, rings_fail, rings_end}
use Rattle.quilt_lang.proofs.spelled.ring_lines.Goals as goal

pub loop-line-init : goal.loop-line-init
loop-line-init c = rw c.new-rings.ensures (rings_none (λ w. w.now) c.args.lines.now)

pub loop-line-preserved : goal.loop-line-preserved
loop-line-preserved c =
    let is = rw c.in-Some.is at c.in_ok-corners.ensures in
    rw (c.in_ok-push_ring.ensures, c.deref.ensures.value)
    (rings_more (λ w. w.now) c.args.lines.now c.loop-line.line-index _ c.loop-line.rings _ (omega arith) c.loop-line.invariant is)

pub returns-in_default : goal.returns-in_default
returns-in_default c =
    let is = rw c.in_default.is at c.in_ok-corners.ensures in
    rings_fail (λ w. w.now) c.args.lines.now c.loop-line.line-index _ c.loop-line.rings (omega arith) c.loop-line.invariant is

pub returns : goal.returns
returns c = rings_end (λ w. w.now) c.args.lines.now c.loop-line.line-index c.loop-line.rings (omega arith) c.loop-line.invariant
