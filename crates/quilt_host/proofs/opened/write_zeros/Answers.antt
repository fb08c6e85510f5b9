use Rattle.quilt_host.proofs.Openings.{zeros_none, zeros_next, zeros_stop}
use Rattle.quilt_host.proofs.StoryLaws.{steps_first, steps_then}
use Rattle.quilt_host.proofs.opened.write_zeros.Goals as goal

pub loop-i-init : goal.loop-i-init
loop-i-init g c = steps_first _ _ _ c.requires.empty zeros_none

pub loop-i-preserved : goal.loop-i-preserved
loop-i-preserved g c =
    steps_then _ _ _ _ _ _ c.loop-i.invariant c.in-Ok.ensures.wrote (λ t u v z w. zeros_next c.loop-i.i c.args.zeros.now t u v c.requires.zeros z w)

pub returns-in-Err-clause-some : goal.returns-in-Err-clause-some
returns-in-Err-clause-some g c =
    steps_then _ _ _ _ _ _ c.loop-i.invariant c.in-Err.ensures.tore (λ t u v z w. zeros_stop c.loop-i.i t u v z w)
