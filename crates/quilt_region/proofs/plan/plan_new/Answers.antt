use Rattle.std.proofs.Common.{ℕ, [], ◌∙◌, ap}
use Rattle.quilt_blocks.specs.Cutting.{leaf_pair}
use Rattle.quilt_spell.specs.OfLayer.{leaf_record}
use Rattle.quilt_region.proofs.Leaves.{none_made, one_made}
use Rattle.quilt_region.proofs.plan.plan_new.Goals as goal

pub loop-leaf-init : goal.loop-leaf-init
loop-leaf-init c = record {
  made =
      none_made c.args.list.now.level c.args.layer c.args.list.now.grid c.new-add.result c.new-leaves.result.rest c.new-add.ensures c.new-leaves.ensures.rest;
  same_level = c.new-leaves.ensures.level;
}

pub loop-leaf-preserved : goal.loop-leaf-preserved
loop-leaf-preserved c =
    let e = leaf_pair c.in-Some.leaf in
    record {
      made = one_made c.args.list.now.level c.args.layer c.loop-leaf.add c.push.new.self _ c.region_record.result e c.loop-leaf.leaves.rest
          c.next.new.self.rest c.in_ok-push.ensures.ok
          (c.region_record.ensures.written [] ∙ ap (λ (k : ℕ). leaf_record k c.args.layer e) c.level-level.ensures.value)
          c.in-Some.ensures.first c.loop-leaf.invariant.made;
      same_level = c.in-Some.ensures.level ∙ c.loop-leaf.invariant.same_level;
    }
