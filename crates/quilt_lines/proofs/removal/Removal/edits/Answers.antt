use Rattle.std.proofs.lemmas.Result.{IfErr-weaker}
use Rattle.quilt_lines.proofs.plans.Removals as removals
use Rattle.quilt_lines.proofs.Results.{if_ok_both, memory_sound}
use Rattle.quilt_btree.proofs.Stops.{zero_page}
use Rattle.quilt_lines.proofs.removal.Removal.edits.Goals as goal

pub returns-clause-plan : goal.returns-clause-plan
returns-clause-plan c =
    let r = c.args.self.now in
    if_ok_both c.edits_of.result _ _ _ (λ e pr pa segs cover valid had h. record {
      plan = removals.plan r.level r.layer r.threshold r.id r.has_level.1 r.has_layer.0 segs cover r.segment valid had c.args.all.now h c.in-Ok.gone.items
          c.in-Ok-back.back.items c.in-Ok.ensures c.in-Ok-back.ensures e pr pa;
      fewer = removals.fewer r.level r.layer r.threshold r.id r.has_level.1 r.has_layer.0 segs cover r.segment valid had c.args.all.now h
          c.in-Ok.gone.items c.in-Ok-back.back.items c.in-Ok.ensures c.in-Ok-back.ensures e pr pa;
    }) c.edits_of.ensures.remove c.edits_of.ensures.add

pub returns-clause-sound : goal.returns-clause-sound
returns-clause-sound c =
    let r = c.args.self.now in
    IfErr-weaker c.edits_of.result _ _ (λ e f segs cover valid had h.
    memory_sound e (f (removals.can r.level r.layer r.threshold r.id r.has_level.1 r.has_layer.0 segs cover r.segment valid had c.args.all.now h
    c.in-Ok.gone.items c.in-Ok-back.back.items c.in-Ok.ensures c.in-Ok-back.ensures)))
    c.edits_of.ensures.memory

pub returns-clause-zero : goal.returns-clause-zero
returns-clause-zero c = IfErr-weaker c.edits_of.result _ _ zero_page c.edits_of.ensures.zero
