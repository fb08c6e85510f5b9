use Rattle.std.proofs.Common.{refl, Err, ap}
use Rattle.quilt_world.specs.declared.disk.Door.TheVariants as doors
use Rattle.quilt_host.specs.Worlds.{IsSoundStory}
use Rattle.quilt_host.proofs.Openings.{sound_made, sound_taken, sound_not_made, makes_at, is_taken}
use Rattle.quilt_host.proofs.StoryLaws.{known_if, known_then, known_same, goes_of, goes_same}
use Rattle.quilt_host.proofs.host_world.HostWorldWorld.make.Goals as goal

pub invariant_of-self : goal.invariant_of-self
invariant_of-self g c =
    let w = c.args.self.now in
    record {
      no_pages = λ not_ready not_made. absurd (not_made refl);
      sound = known_then (IsSoundStory w.door w.pages) (IsSoundStory doors.Made c.args.pages) _ _ _ w.sound c.in-Ok.ensures.made
          (λ s u sound m. sound_made c.args.path.now w.door c.args.pages w.pages s u sound m);
    }

pub returns-in-Ok-clause-tale : goal.returns-in-Ok-clause-tale
returns-in-Ok-clause-tale g c =
    let w = c.args.self.now in
    goes_of (IsSoundStory w.door w.pages) _ _ _ _ _ _ w.sound c.in-Ok.ensures.made (λ s u sound m.
    makes_at c.args.path.now w.door c.args.pages w.pages w.reads w.writes s u c.requires sound m)

pub returns-in-Err-Taken-clause-tale : goal.returns-in-Err-Taken-clause-tale
returns-in-Err-Taken-clause-tale g c =
    let w = c.args.self.now in
    let taken = ap (λ f. Err f) c.in-Err-Taken.field-0-is in
    goes_same _ _ _ _ _ _ (known_if (IsSoundStory w.door w.pages) _ _ w.sound (c.in-Err-Taken.ensures.taken taken)) (c.in-Err-Taken.ensures.untouched taken)
    (λ s both. is_taken c.args.path.now w.door c.args.pages w.pages w.pages w.reads w.writes s c.requires both.0 both.1)

pub invariant_of-self-in-Err-Taken : goal.invariant_of-self-in-Err-Taken
invariant_of-self-in-Err-Taken g c =
    let w = c.args.self.now in
    let taken = ap (λ f. Err f) c.in-Err-Taken.field-0-is in
    record {
      no_pages = λ not_ready not_made. w.no_pages (λ e. cc) (λ e. cc);
      sound = known_same (IsSoundStory w.door w.pages) (IsSoundStory doors.Taken w.pages) _ _ w.sound (c.in-Err-Taken.ensures.untouched taken)
          (sound_taken w.door w.pages w.no_pages c.requires);
    }

pub invariant_of-self-in-Err : goal.invariant_of-self-in-Err
invariant_of-self-in-Err g c =
    let w = c.args.self.now in
    record {
      no_pages = λ not_ready not_made. w.no_pages (λ e. cc) (λ e. cc);
      sound = known_then (IsSoundStory w.door w.pages) (IsSoundStory doors.Failed w.pages) _ _ _ w.sound c.in-Err.ensures.failed
          (sound_not_made w.door w.pages w.no_pages c.requires);
    }
