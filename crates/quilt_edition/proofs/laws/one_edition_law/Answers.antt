use Rattle.quilt_edition.proofs.OneEdition.{stands_once}
use Rattle.quilt_edition.proofs.laws.one_edition_law.Goals as goal

pub returns : goal.returns
returns c = record { law = stands_once }
