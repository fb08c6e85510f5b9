use Rattle.std.proofs.Common.{sym, ◌∙◌, eqb-true, eq-eqb}
use Rattle.quilt_audit.proofs.CodeCount.{codes_are}
use Rattle.quilt_audit.proofs.regions.RegionRun.is_finished.Goals as goal

pub returns-clause-yes : goal.returns-clause-yes
returns-clause-yes c t = eqb-true _ _ t ∙ codes_are c.args.level c.requires

pub returns-clause-no : goal.returns-clause-no
returns-clause-no c f e = let t = eq-eqb _ _ (e ∙ sym (codes_are c.args.level c.requires)) in cc
