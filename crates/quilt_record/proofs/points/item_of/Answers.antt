use Rattle.std.proofs.Common.{arith}
use Rattle.quilt_record.proofs.BlockKeys.{pixel_below}
use Rattle.quilt_types.proofs.CodeLaws.{code_below}
use Rattle.quilt_record.proofs.points.item_of.Goals as goal

pub code_of-requires-clause-in_x : goal.code_of-requires-clause-in_x
code_of-requires-clause-in_x c = (pixel_below c.args.level c.args.p c.requires.level c.requires.pixel).0

pub code_of-requires-clause-in_y : goal.code_of-requires-clause-in_y
code_of-requires-clause-in_y c = (pixel_below c.args.level c.args.p c.requires.level c.requires.pixel).1

pub overflow_add-result : goal.overflow_add-result
overflow_add-result c = omega (arith, c.code_of.ensures.value, code_below c.args.p.x c.args.p.y)
