use Rattle.std.proofs.Common.{sym}
use Rattle.quilt_blocks.proofs.list.LeafList.colour_at.Goals as goal

pub returns : goal.returns
returns c = sym (c.leaf_around.ensures.colour.each c.args.p c.leaf_around.ensures.held)
