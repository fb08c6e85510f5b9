use Rattle.quilt_btree.proofs.ranges.Parts.{part_added}
use Rattle.quilt_btree.proofs.span.add_leaf.Goals as goal

pub returns : goal.returns
returns c =
    part_added c.args.low.now c.args.high.now c.count_below-first.result c.count_up_to-last.result c.add_span.result c.args.most c.args.bytes.now
    c.args.records.now.items c.add_span.new.records.items c.count_below-first.ensures c.count_up_to-last.ensures.above c.add_span.ensures
