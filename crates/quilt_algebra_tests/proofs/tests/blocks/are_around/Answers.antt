use Rattle.std.proofs.Common.{refl, arith}
use Rattle.quilt_algebra_tests.proofs.tests.blocks.are_around.Goals as goal

pub quarters-requires-clause-valid : goal.quarters-requires-clause-valid
quarters-requires-clause-valid c = record { level = 2; low = omega arith; size = refl; on_x = refl; on_y = refl; in_x = omega arith; in_y = omega arith }
