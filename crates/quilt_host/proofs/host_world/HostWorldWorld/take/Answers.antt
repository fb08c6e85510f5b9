use Rattle.std.proofs.Common.{take}
use Rattle.quilt_host.specs.Calls.{TakesInput}
use Rattle.quilt_host.specs.Worlds.{IsSoundStory}
use Rattle.quilt_host.proofs.Answered.{if_ok, known_if_ok}
use Rattle.quilt_host.proofs.Soundness.{open_either}
use Rattle.quilt_host.proofs.StoryLaws.{goes_of}
use Rattle.quilt_host.proofs.Steps.{sound_took, takes_from}
use Rattle.quilt_host.proofs.host_world.HostWorldWorld.take.Goals as goal

pub invariant_of-self : goal.invariant_of-self
invariant_of-self g c = record {
  no_pages = c.args.self.now.no_pages;
  sound = known_if_ok c.take-outcome.result (λ n. TakesInput (take n c.take-outcome.new.into)) (IsSoundStory c.args.self.now.door c.args.self.now.pages) _ _
      c.take-outcome.ensures.took c.take-outcome.ensures.nothing c.args.self.now.sound
      (λ n. sound_took c.args.self.now.door c.args.self.now.pages (take n c.take-outcome.new.into));
}

pub returns-clause-took : goal.returns-clause-took
returns-clause-took g c =
    let opens = open_either c.args.self.now.door c.requires.open in
    if_ok c.take-outcome.result c.or_fault.result _ _ c.or_fault.ensures.ok c.or_fault.ensures.err c.take-outcome.ensures.took (λ n steps.
    goes_of (IsSoundStory c.args.self.now.door c.args.self.now.pages) _ _ _ _ _ _ c.args.self.now.sound steps (λ s u sound is.
    takes_from c.args.self.now.door c.args.self.now.pages c.args.self.now.reads c.args.self.now.writes (take n c.take-outcome.new.into) s u opens is))
