use Rattle.std.proofs.Common.{◌+◌, ◌*◌}
use Rattle.quilt_node.specs.Pages.{key_at}
use Rattle.quilt_node.proofs.Searches.{to_last}
use Rattle.quilt_node.proofs.Numbers.{over_first, over_stops, over_next}
use Rattle.quilt_node.proofs.keys.keys_ascend.Goals as goal

pub loop-i-init : goal.loop-i-init
loop-i-init c =
    over_first c.args.bytes.now c.args.at c.args.width c.args.n c.number_in-last.result c.number_in-last.ensures.number c.number_in-last.ensures.fits

pub returns-then-next-last : goal.returns-then-next-last
returns-then-next-last c =
    over_stops (λ i. key_at c.args.bytes.now (c.args.at + c.args.width * i)) c.args.n c.loop-i.i c.loop-i.last c.number_in-next.result
    c.loop-i.auto.i c.loop-i-test.true
    c.loop-i.invariant c.number_in-next.ensures.number c.number_in-next.ensures.fits c.if-next-last.true

pub loop-i-preserved : goal.loop-i-preserved
loop-i-preserved c =
    over_next (λ i. key_at c.args.bytes.now (c.args.at + c.args.width * i)) c.args.n c.loop-i.i c.loop-i.last c.number_in-next.result
    c.loop-i.auto.i c.loop-i-test.true
    c.loop-i.invariant c.number_in-next.ensures.number c.number_in-next.ensures.fits c.if-next-last.false

pub returns : goal.returns
returns c = to_last _ c.args.n c.loop-i.i c.loop-i-test.false c.loop-i.invariant.ascends
