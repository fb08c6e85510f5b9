use Rattle.std.specs.Option.{option_map}
use Rattle.std.specs.Prelude.{IfSome}
use Rattle.std.proofs.Common.{subst, sym, ◌∙◌}
use Rattle.quilt_host.specs.Worlds.{IsSoundStory}
use Rattle.quilt_host.proofs.Answered.{on_ok}
use Rattle.quilt_host.proofs.ByteLaws.{get-pages_of}
use Rattle.quilt_host.proofs.StoryLaws.{known_same, mapped_if}
use Rattle.quilt_host.proofs.host_world.HostWorldDisk.read_page.Goals as goal

pub invariant_of-self : goal.invariant_of-self
invariant_of-self g c =
    let w = c.args.self.now in
    record {
      no_pages = w.no_pages;
      sound = known_same (IsSoundStory w.door w.pages) (IsSoundStory w.door w.pages) _ _ w.sound c.read_page-outcome.ensures.nothing (λ s sound. sound);
    }

pub returns-clause-bytes : goal.returns-clause-bytes
returns-clause-bytes g c =
    let w = c.args.self.now in
    on_ok c.read_page-outcome.result c.or_fault.result _ _ c.or_fault.ensures.err c.read_page-outcome.ensures.bytes (λ read.
    mapped_if _ _ _ _ _ read c.read_page-outcome.ensures.nothing (λ s is. is ∙ sym (get-pages_of s.bytes w.pages c.args.i c.requires)))
