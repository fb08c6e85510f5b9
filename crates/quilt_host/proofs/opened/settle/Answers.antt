use Rattle.quilt_host.proofs.Openings.{settles}
use Rattle.quilt_host.proofs.StoryLaws.{steps_then}
use Rattle.quilt_host.proofs.opened.settle.Goals as goal

pub returns-in-Ok-sync_folder-clause-settled : goal.returns-in-Ok-sync_folder-clause-settled
returns-in-Ok-sync_folder-clause-settled g c =
    steps_then _ _ _ _ _ _ c.in-Ok.ensures.synced c.in-Ok-sync_folder.ensures.linked settles
