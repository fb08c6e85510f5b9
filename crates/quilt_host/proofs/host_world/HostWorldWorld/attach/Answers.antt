use Rattle.std.proofs.Common.{refl, Err, ap}
use Rattle.quilt_world.specs.declared.disk.Door.TheVariants as doors
use Rattle.quilt_host.specs.Worlds.{IsSoundStory}
use Rattle.quilt_host.proofs.Openings.{sound_opened, sound_missing, sound_not_opened, opens_at, is_missing, fails_to_open}
use Rattle.quilt_host.proofs.StoryLaws.{known_if, known_then, known_same, known_also, goes_of, goes_same}
use Rattle.quilt_host.proofs.host_world.HostWorldWorld.attach.Goals as goal

pub invariant_of-self : goal.invariant_of-self
invariant_of-self g c =
    let w = c.args.self.now in
    record {
      no_pages = λ not_ready not_made. absurd (not_ready refl);
      sound = known_also (IsSoundStory w.door w.pages) (IsSoundStory doors.Ready c.in-Ok.opened.pages) _ _ _ _ w.sound c.in-Ok.ensures.opened c.in-Ok.ensures.pages
          (λ s u sound o within. sound_opened c.args.path.now w.door c.in-Ok.opened.pages w.pages s u c.requires sound o within);
    }

pub returns-in-Ok-clause-tale : goal.returns-in-Ok-clause-tale
returns-in-Ok-clause-tale g c =
    let w = c.args.self.now in
    goes_of (IsSoundStory w.door w.pages) _ _ _ _ _ _ w.sound c.in-Ok.ensures.opened (λ s u sound o.
    opens_at c.args.path.now w.door w.pages c.in-Ok.opened.pages w.reads w.writes s u c.requires sound o)

pub returns-in-Err-Missing-clause-tale : goal.returns-in-Err-Missing-clause-tale
returns-in-Err-Missing-clause-tale g c =
    let w = c.args.self.now in
    let missing = ap (λ f. Err f) c.in-Err-Missing.field-0-is in
    goes_same _ _ _ _ _ _ (known_if (IsSoundStory w.door w.pages) _ _ w.sound (c.in-Err-Missing.ensures.missing missing)) (c.in-Err-Missing.ensures.unopened missing)
    (λ s both. is_missing c.args.path.now w.door w.pages w.pages w.reads w.writes s c.requires both.0 both.1)

pub invariant_of-self-in-Err-Missing : goal.invariant_of-self-in-Err-Missing
invariant_of-self-in-Err-Missing g c =
    let w = c.args.self.now in
    let missing = ap (λ f. Err f) c.in-Err-Missing.field-0-is in
    record {
      no_pages = λ not_ready not_made. w.no_pages (λ e. cc) (λ e. cc);
      sound = known_same (IsSoundStory w.door w.pages) (IsSoundStory doors.Missing w.pages) _ _ w.sound (c.in-Err-Missing.ensures.unopened missing)
          (sound_missing w.door w.pages w.no_pages c.requires);
    }

pub invariant_of-self-in-Err : goal.invariant_of-self-in-Err
invariant_of-self-in-Err g c =
    let w = c.args.self.now in
    record {
      no_pages = λ not_ready not_made. w.no_pages (λ e. cc) (λ e. cc);
      sound = known_then (IsSoundStory w.door w.pages) (IsSoundStory doors.Failed w.pages) _ _ _ w.sound c.in-Err.ensures.failed
          (sound_not_opened w.door w.pages w.no_pages c.requires c.args.path.now);
    }
