use Rattle.std.specs.Prelude.{IfSome}
use Rattle.std.proofs.Common.{◌≡◌, [], Option, refl, sym, subst}
use Rattle.quilt_world.specs.Tale.{Tale, taken_bytes}
use Rattle.quilt_host_tests.proofs.runs.done.Goals as goal

pub run_quilt-end-requires-clause-untaken : goal.run_quilt-end-requires-clause-untaken
run_quilt-end-requires-clause-untaken g c lifetimes lives =
    subst (λ (o : Option Tale). IfSome o (λ t. taken_bytes t.log ≡ [])) (sym c.new.ensures.told) refl
