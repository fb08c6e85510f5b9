use Rattle.std.proofs.Common.{◌≡◌, rules}
use Rattle.quilt_world.proofs.Told.{goes_now}
use Rattle.quilt_journal.specs.Kept.{IsKept, published, work}
use Rattle.quilt_journal_tests.proofs.steps.marks.Goals as goal

pub loop-i-preserved : goal.loop-i-preserved
loop-i-preserved g c =
    let j = c.args.journal.now in
    record {
      size = search rules;
      kept = goes_now (λ old new. IsKept j.state j.pages j.changed new × (published new j.pages ≡ published old j.pages)
          × (work new j.pages j.changed ≡ work old j.pages j.changed)) (IsKept j.state j.pages j.changed) _ _ c.read_page.ensures.kept (λ o n h. h.0);
    }
