use Rattle.std.specs.Prelude.{map, IfSome}
use Rattle.std.proofs.Common.{◌≡◌, ◌∙◌, [], Option, sym, ap, subst}
use Rattle.quilt_top.specs.Words.{asked_for}
use Rattle.quilt_world.specs.Tale.{Tale, taken_bytes}
use Rattle.quilt_host.specs.Systems.{system_of}
use Rattle.quilt.proofs.ProgramLaws.{does_of_tales, untaken_first}
use Rattle.quilt.proofs.run.run_texts.Goals as goal

pub run_quilt-end-requires-clause-untaken : goal.run_quilt-end-requires-clause-untaken
run_quilt-end-requires-clause-untaken g c lifetimes lives =
    subst (λ (o : Option Tale). IfSome o (λ t. taken_bytes t.log ≡ [])) (sym c.new.ensures.told) (untaken_first (g.S.System.told c.args.system))

pub returns : goal.returns
returns g c =
    does_of_tales (asked_for (map (λ w. w.now) c.args.texts.now)) c.run_quilt-end.result.0 _ _ _ _ _ _ _ _ _ _ c.new.ensures.told
    c.into_system.ensures.told c.new.ensures.faults c.into_system.ensures.kept c.run_quilt-end.ensures.usage
    (λ none. ap g.S.System.told (c.into_system.ensures.system ∙ ap system_of (c.run_quilt-end.ensures.untouched none) ∙ c.new.ensures.system))
    c.run_quilt-end.ensures.cause c.run_quilt-end.ensures.promises c.run_quilt-end.ensures.more
