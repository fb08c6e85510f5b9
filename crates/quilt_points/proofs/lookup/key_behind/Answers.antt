use Rattle.std.proofs.Common.{arith}
use Rattle.quilt_loc.proofs.Blocks.{side_most}
use Rattle.quilt_points.proofs.lookup.key_behind.Goals as goal

pub code_of-requires-clause-in_x : goal.code_of-requires-clause-in_x
code_of-requires-clause-in_x c = let m = side_most c.args.layer.level c.args.layer.has_level.1 in let x = c.requires.in_x in omega arith

pub code_of-requires-clause-in_y : goal.code_of-requires-clause-in_y
code_of-requires-clause-in_y c = let m = side_most c.args.layer.level c.args.layer.has_level.1 in let y = c.requires.in_y in omega arith
