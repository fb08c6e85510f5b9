use Rattle.std.proofs.Common.{◌≡◌, Option, Some, map, subst, rules}
use Rattle.quilt_top.specs.Headline.{HasEndCause}
use Rattle.quilt_top.specs.Meanings.{run_from}
use Rattle.quilt_top.specs.Words.{Order, asked_for}
use Rattle.quilt_top.proofs.Promises.{cause_by}
use Rattle.quilt_top.proofs.run.run_quilt.Goals as goal

pub returns-in-Some-Run-clause-cause : goal.returns-in-Some-Run-clause-cause
returns-in-Some-Run-clause-cause g c =
    let file = c.in-Some-Run.file in
    let is : Some (run_from file.source file.path.now file.pool) ≡ asked_for (map (λ w. w.now) c.args.words.now) = search rules in
    subst (λ (order : Option Order). HasEndCause order (g.W.Disk.faults c.args.world) (g.W.Disk.faults c.run_file.result.1)
    (g.W.Disk.door c.run_file.result.1) c.run_file.result.0) is
    (cause_by file.source file.path.now file.pool _ _ _ _ c.run_file.ensures.cause c.run_file.ensures.short)
