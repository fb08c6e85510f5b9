use Rattle.quilt_host.specs.Worlds.{IsSoundStory}
use Rattle.quilt_host.proofs.Answered.{on_ok, known_by}
use Rattle.quilt_host.proofs.Soundness.{open_with_pages}
use Rattle.quilt_host.proofs.StoryLaws.{goes_of}
use Rattle.quilt_host.proofs.Steps.{sound_synced, adds_synced}
use Rattle.quilt_host.proofs.host_world.HostWorldDisk.sync.Goals as goal

pub invariant_of-self-2 : goal.invariant_of-self-2
invariant_of-self-2 g c = record {
  no_pages = c.args.self.now.no_pages;
  sound = known_by c.sync_pages-outcome.result _ (IsSoundStory c.args.self.now.door c.args.self.now.pages) _ _ c.sync_pages-outcome.ensures.synced
      c.sync_pages-outcome.ensures.nothing c.args.self.now.sound (sound_synced c.args.self.now.door c.args.self.now.pages);
}

pub returns-clause-synced : goal.returns-clause-synced
returns-clause-synced g c =
    let opens = open_with_pages c.args.self.now.door c.args.self.now.pages c.args.self.now.no_pages c.requires in
    on_ok c.sync_pages-outcome.result c.or_fault.result _ _ c.or_fault.ensures.err c.sync_pages-outcome.ensures.synced (λ steps.
    goes_of (IsSoundStory c.args.self.now.door c.args.self.now.pages) _ _ _ _ _ _ c.args.self.now.sound steps (λ s u sound is.
    adds_synced c.args.self.now.door c.args.self.now.pages c.args.self.now.reads c.args.self.now.writes s u opens is))
