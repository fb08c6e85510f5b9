use Rattle.std.proofs.Common.{◌≡◌}
use Rattle.quilt_top.proofs.InTurn.{shut_more}
use Rattle.quilt_top.proofs.run.left_alone.Goals as goal

pub returns-clause-more : goal.returns-clause-more
returns-clause-more g c order = shut_more order _ _ _ c.requires.door c.requires.untaken
