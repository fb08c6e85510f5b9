use Rattle.std.proofs.Common.{rules, ◌≡◌, true, arith}
use Rattle.std.proofs.lemmas.List.Sorted.{IsPartitionPoint-from_clause}
use Rattle.quilt_types.specs.declared.plane.Point.{Point}
use Rattle.quilt_types.specs.Plane.{in_block}
use Rattle.quilt_points.proofs.plans.Parts.{block_parted, taken_pass}
use Rattle.quilt_points.proofs.delta.count_in.Goals as goal

pub returns-then-points-gt-MANY_POINTS-clause-inside : goal.returns-then-points-gt-MANY_POINTS-clause-inside
returns-then-points-gt-MANY_POINTS-clause-inside c =
    let parted = block_parted 12 (omega arith) c.args.points.now c.requires.points c.args.b c.requires.block c.requires.order in
    let point = IsPartitionPoint-from_clause (λ (p : Point). in_block c.args.b p.at) _ _ c.partition_point.ensures.partitioned parted (λ a r q k. search rules) in
    taken_pass (λ (p : Point). in_block c.args.b p.at ≡ true) c.args.points.now c.partition_point.result c.partition_point.ensures.bound point.0

pub returns-then-points-gt-MANY_POINTS-clause-behind : goal.returns-then-points-gt-MANY_POINTS-clause-behind
returns-then-points-gt-MANY_POINTS-clause-behind c lt d =
    let parted = block_parted 12 (omega arith) c.args.points.now c.requires.points c.args.b c.requires.block c.requires.order in
    let point = IsPartitionPoint-from_clause (λ (p : Point). in_block c.args.b p.at) _ _ c.partition_point.ensures.partitioned parted (λ a r q k. search rules) in
    point.1 c.partition_point.result d (omega arith) lt
