use Rattle.std.proofs.Common.{arith}
use Rattle.quilt_points.proofs.plan.delta_of.Goals as goal

pub add_delta-requires-clause-order : goal.add_delta-requires-clause-order
add_delta-requires-clause-order c many = absurd (let least = c.args.layer.has_bucket.0 in omega arith)
