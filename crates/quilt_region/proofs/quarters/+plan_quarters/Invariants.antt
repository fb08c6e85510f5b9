use Rattle.quilt_region.proofs.quarters.+plan_quarters.Given as goal

abbrev pub decreases-plan_quarters : goal.decreases-plan_quarters
decreases-plan_quarters g l = l.count
