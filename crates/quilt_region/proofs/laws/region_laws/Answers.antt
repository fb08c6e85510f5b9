use Rattle.quilt_region.proofs.GridsFit.{fits_law}
use Rattle.quilt_region.proofs.plans.RegionLaws.{reads_law, changes_law, fresh_law}
use Rattle.quilt_region.proofs.laws.region_laws.Goals as goal

pub returns-clause-reads : goal.returns-clause-reads
returns-clause-reads c = reads_law

pub returns-clause-changes : goal.returns-clause-changes
returns-clause-changes c = changes_law

pub returns-clause-fresh : goal.returns-clause-fresh
returns-clause-fresh c = fresh_law

pub returns-clause-fits : goal.returns-clause-fits
returns-clause-fits c = fits_law
