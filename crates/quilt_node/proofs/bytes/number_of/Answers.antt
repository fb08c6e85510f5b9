use Rattle.std.proofs.Common.{arith}
use Rattle.quilt_node.specs.KeysIn.{key_number}
use Rattle.quilt_node.proofs.bytes.number_of.Goals as goal

pub returns-clause-number : goal.returns-clause-number
unfolding key_number
returns-clause-number c = omega arith
