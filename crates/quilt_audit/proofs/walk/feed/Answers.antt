use Rattle.std.proofs.Common.{arith}
use Rattle.quilt_node.specs.Nodes.{page_records}
use Rattle.quilt_audit.proofs.Feeding.{Takes-none, Takes-more, Takes-all}
use Rattle.quilt_audit.proofs.walk.feed.Goals as goal

pub loop-i-init : goal.loop-i-init
loop-i-init c = Takes-none c.args.checker.now

pub loop-i-preserved : goal.loop-i-preserved
loop-i-preserved c =
    Takes-more c.args.checker.now c.loop-i.checker c.push.new.self (page_records c.args.bytes.now) c.loop-i.i c.rec_in.result
    (c.rec_in.ensures.stands (let f = c.loop-i-test.true in let e = c.records_in-i-end.ensures.all in omega arith)) c.loop-i.invariant c.in_ok-push.ensures

pub returns : goal.returns
returns c = Takes-all c.args.checker.now c.loop-i.checker (page_records c.args.bytes.now) c.loop-i.i (let e = c.records_in-i-end.ensures.all in
    let f = c.loop-i-test.false in omega arith) c.loop-i.invariant
