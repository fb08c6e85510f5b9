use Rattle.quilt_record.proofs.BlockKeys.{in_square}
use Rattle.quilt_record.proofs.block.block_key.Goals as goal

pub code_of-requires-clause-in_x : goal.code_of-requires-clause-in_x
code_of-requires-clause-in_x c = (in_square c.args.level c.args.b c.requires.level c.requires.block).0

pub code_of-requires-clause-in_y : goal.code_of-requires-clause-in_y
code_of-requires-clause-in_y c = (in_square c.args.level c.args.b c.requires.level c.requires.block).1
