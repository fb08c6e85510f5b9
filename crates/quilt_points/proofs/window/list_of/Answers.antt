use Rattle.std.proofs.Common.{◌∙◌, arith}
use Rattle.std.proofs.lemmas.List.{take_all}
use Rattle.quilt_edits.proofs.Lists.{pushed}
use Rattle.quilt_points.proofs.window.list_of.Goals as goal

pub loop-p-preserved : goal.loop-p-preserved
loop-p-preserved c = pushed _ _ c.args.points.now c.loop-p.p-index _ c.in_ok-push.ensures.ok c.loop-p.invariant c.loop-p-test.true

pub returns : goal.returns
returns c = c.loop-p.invariant ∙ take_all c.loop-p.p-index c.args.points.now (omega arith)
