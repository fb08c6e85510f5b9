use Rattle.std.proofs.Common.{◌∙◌, sym, ap}
use Rattle.quilt_node.specs.declared.head.Head.{Head}
use Rattle.quilt_map.specs.Sessions.{IsAt}
use Rattle.quilt_map.proofs.answers.Answered.{count_is}
use Rattle.quilt_map.proofs.session.Session.head.Goals as goal

pub returns-clause-records : goal.returns-clause-records
unfolding IsAt
returns-clause-records g c = λ s at. sym (count_is c.args.self.now s at.at) ∙ ap (λ (h : Head). h.records) (sym c.head.ensures.work)
