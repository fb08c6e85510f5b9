use Rattle.quilt_region.proofs.Edited.{edited_spells}
use Rattle.quilt_region.proofs.plan.plan_replace.Goals as goal

pub returns-clause-law : goal.returns-clause-law
returns-clause-law c n number g h edits rs now le grid leads spells is = edited_spells n number g h le edits rs now leads spells is grid
