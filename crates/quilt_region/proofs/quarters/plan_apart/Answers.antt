use Rattle.std.proofs.Common.{◌+◌, ◌*◌, ◌≤◌, rules, length, arith}
use Rattle.quilt_region.specs.Windows.{leaves_within}
use Rattle.quilt_region.proofs.Beside.{if_ok_weaker}
use Rattle.quilt_world.proofs.ReadCounts.{reads_more}
use Rattle.quilt_region.proofs.Nearby.{more_within}
use Rattle.quilt_region.proofs.plans.QuarterPlans.{if_planned, if_some_plan}
use Rattle.quilt_region.proofs.quarters.plan_apart.Goals as goal

pub returns-clause-large : goal.returns-clause-large
returns-clause-large g c =
    let big : 64 ≤ c.block_around-b.result.side = search rules in
    if_some_plan c.plan_in_block.result _
    (λ a ha holds. let within = c.block_around-b.ensures.least a ha holds in let l = within.left in let r = within.right in omega arith)

pub returns-clause-reads : goal.returns-clause-reads
returns-clause-reads g c =
    if_planned c.plan_in_block.result _ _
    (λ edits law grid a h ha holds.
    let n = c.args.level in
    let b = c.block_around-b.result in
    let more = more_within n grid c.requires.level.1 b a c.block_around-b.ensures.valid ha (c.block_around-b.ensures.least a ha holds) in
    reads_more (144 + 3 * length (leaves_within n grid b)) (144 + 3 * length (leaves_within n grid a)) _ _ (omega arith) (law grid h))
    c.plan_in_block.ensures.reads

pub returns-clause-tried : goal.returns-clause-tried
returns-clause-tried g c =
    let big : 64 ≤ c.block_around-b.result.side = search rules in
    if_ok_weaker c.plan_in_block.result
    (λ o law none. (
      6,
      λ a ha holds. let within = c.block_around-b.ensures.least a ha holds in let l = within.left in let r = within.right in
          (let all : 64 ≤ a.side = omega arith in all),
      reads_more 120 (24 * 6) _ _ (omega arith) (law none),
    ))
    c.plan_in_block.ensures.tried
