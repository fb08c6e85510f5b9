use Rattle.quilt_map.proofs.answers.Asked.{if_ok}
use Rattle.quilt_map.proofs.plans.PaintPlans.{set_answered}
use Rattle.quilt_map.proofs.session.Session.set.Goals as goal

pub returns-clause-answer : goal.returns-clause-answer
returns-clause-answer g c =
    if_ok _ _ c.rect.result
    (λ reply p s at low. set_answered {D = g.W.Disk} c.args.self.now c.rect.new.self s c.args.name.now c.args.at c.args.c reply (p s at low))
    c.rect.ensures.answer
