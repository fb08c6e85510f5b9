use Rattle.quilt_record.proofs.BlockKeys.{side_zeros}
use Rattle.quilt_record.proofs.block.depth_of.Goals as goal

pub overflow_sub-result : goal.overflow_sub-result
overflow_sub-result c = (side_zeros c.args.level c.args.b c.requires.level c.requires.block).0

pub returns : goal.returns
returns c = (side_zeros c.args.level c.args.b c.requires.level c.requires.block).1
