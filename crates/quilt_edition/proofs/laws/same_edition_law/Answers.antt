use Rattle.quilt_edition.proofs.SameEdition.{same_edition}
use Rattle.quilt_edition.proofs.laws.same_edition_law.Goals as goal

pub returns : goal.returns
returns c = record { law = λ pages others e h size first same. same_edition pages others size e h first same }
