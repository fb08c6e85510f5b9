use Rattle.std.proofs.Common.{take}
use Rattle.quilt_host.specs.Calls.{Puts}
use Rattle.quilt_host.specs.Worlds.{IsSoundStory}
use Rattle.quilt_host.proofs.Answered.{if_ok, known_if_ok}
use Rattle.quilt_host.proofs.Soundness.{open_either}
use Rattle.quilt_host.proofs.StoryLaws.{goes_of}
use Rattle.quilt_host.proofs.Steps.{sound_put, adds_put}
use Rattle.quilt_host.proofs.host_world.HostWorldWorld.put.Goals as goal

pub invariant_of-self : goal.invariant_of-self
invariant_of-self g c = record {
  no_pages = c.args.self.now.no_pages;
  sound = known_if_ok c.put-outcome.result (λ n. Puts (take n c.args.bytes.now)) (IsSoundStory c.args.self.now.door c.args.self.now.pages) _ _ c.put-outcome.ensures.put
      c.put-outcome.ensures.nothing c.args.self.now.sound (λ n. sound_put c.args.self.now.door c.args.self.now.pages (take n c.args.bytes.now));
}

pub returns-clause-put : goal.returns-clause-put
returns-clause-put g c =
    let opens = open_either c.args.self.now.door c.requires.open in
    if_ok c.put-outcome.result c.or_fault.result _ _ c.or_fault.ensures.ok c.or_fault.ensures.err c.put-outcome.ensures.put (λ n steps.
    goes_of (IsSoundStory c.args.self.now.door c.args.self.now.pages) _ _ _ _ _ _ c.args.self.now.sound steps (λ s u sound is.
    adds_put c.args.self.now.door c.args.self.now.pages c.args.self.now.reads c.args.self.now.writes (take n c.args.bytes.now) s u opens is))
