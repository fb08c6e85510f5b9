use Rattle.quilt_replies.proofs.Replies.{counted_reply, counting_more}
use Rattle.quilt_replies.proofs.bodies.blocks_text.Goals as goal

pub loop-k-preserved : goal.loop-k-preserved
loop-k-preserved c =
    counting_more c.args.counts.now c.args.level c.loop-k.k c.from.result c.loop-k.text c.push_count.new.text c.loop-k.invariant c.loop-k-test.true
    c.in_ok-push_count.ensures c.from.ensures

pub returns : goal.returns
returns c =
    counted_reply c.args.counts.now c.finish.result c.args.level c.loop-k.k c.loop-k.text c.finish.ensures c.requires c.loop-k.invariant c.loop-k-test.false
