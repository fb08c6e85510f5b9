use Rattle.std.proofs.lemmas.Result.{IfErr-weaker}
use Rattle.quilt_btree.proofs.Stops.{zero_page}
use Rattle.quilt_points.proofs.Results.{if_ok_both, memory_sound}
use Rattle.quilt_points.proofs.plans.Dels.{del_can, del_plan}
use Rattle.quilt_points.proofs.plan.take_out.Goals as goal

pub returns-in-Ok-clause-plan : goal.returns-in-Ok-clause-plan
returns-in-Ok-clause-plan c =
    if_ok_both c.edits_of.result _ _ _ (λ edits pr pa points valid some way mb.
    del_plan c.args.layer.level c.args.layer.bucket c.args.layer.number c.args.layer.has_level.1 c.args.layer.has_number.0 c.args.layer.has_number.1
    points valid c.args.b c.args.held.now c.args.p some way mb
    c.requires.block.level c.requires.block.size _ _ c.in-Ok.ensures.without (c.in-Ok.ensures.with c.requires.block.level c.requires.block.size)
    edits pr pa) c.edits_of.ensures.remove c.edits_of.ensures.add

pub returns-in-Ok-clause-sound : goal.returns-in-Ok-clause-sound
returns-in-Ok-clause-sound c =
    IfErr-weaker c.edits_of.result _ _ (λ e f points valid some way mb. memory_sound e (f
    (del_can c.args.layer.level c.args.layer.bucket c.args.layer.number c.args.layer.has_level.1 c.args.layer.has_number.0 c.args.layer.has_number.1
    points valid c.args.b c.args.held.now c.args.p some way mb
    c.requires.block.level c.requires.block.size _ _ c.in-Ok.ensures.without (c.in-Ok.ensures.with c.requires.block.level c.requires.block.size))))
    c.edits_of.ensures.memory

pub returns-in-Ok-clause-zero : goal.returns-in-Ok-clause-zero
returns-in-Ok-clause-zero c = IfErr-weaker c.edits_of.result _ _ zero_page c.edits_of.ensures.zero
