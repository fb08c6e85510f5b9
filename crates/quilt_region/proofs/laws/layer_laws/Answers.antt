use Rattle.quilt_region.proofs.plans.LayerPlans.{numbers_law, drops_law, copies_law}
use Rattle.quilt_region.proofs.laws.layer_laws.Goals as goal

pub returns-clause-number : goal.returns-clause-number
returns-clause-number c = numbers_law

pub returns-clause-drops : goal.returns-clause-drops
returns-clause-drops c = drops_law

pub returns-clause-copies : goal.returns-clause-copies
returns-clause-copies c = copies_law
