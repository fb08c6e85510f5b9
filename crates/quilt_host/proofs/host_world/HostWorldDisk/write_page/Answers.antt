use Rattle.std.proofs.Common.{◌≡◌, length, rules}
use Rattle.quilt_host.specs.Worlds.{IsSoundStory}
use Rattle.quilt_host.proofs.Answered.{on_ok, on_err, known_either}
use Rattle.quilt_host.proofs.Soundness.{open_with_pages, sound_wrote, sound_tore, adds_wrote, adds_tore}
use Rattle.quilt_host.proofs.StoryLaws.{goes_of}
use Rattle.quilt_host.proofs.host_world.HostWorldDisk.write_page.Goals as goal

pub invariant_of-self-2 : goal.invariant_of-self-2
invariant_of-self-2 g c =
    let w = c.args.self.now in
    let size : length c.args.bytes.now ≡ 4096 = search rules in
    record {
      no_pages = w.no_pages;
      sound = known_either c.write_page-outcome.result _ _ (IsSoundStory w.door w.pages) _ _ c.write_page-outcome.ensures.wrote c.write_page-outcome.ensures.tore w.sound
          (λ s u sound is. sound_wrote w.door w.pages c.args.i c.args.bytes.now s u c.requires size sound is)
          (λ s u sound is. sound_tore w.door w.pages c.args.i s u c.requires sound is);
    }
