use Rattle.std.proofs.Common.{refl, ap}
use Rattle.quilt_node.specs.declared.head.Head.{Head}
use Rattle.quilt_words.specs.declared.command.Command.TheVariants as commands
use Rattle.quilt_map.proofs.answers.Answered.{records_body}
use Rattle.quilt_map.proofs.answers.Asks.{told_here}
use Rattle.quilt_map.proofs.answers.Asked.{if_ok}
use Rattle.quilt_map.proofs.session.Session.records.Goals as goal

pub returns-clause-answer : goal.returns-clause-answer
returns-clause-answer g c =
    told_here {D = g.W.Disk} commands.Records refl c.args.self.now c.records_text.result c.told.result c.told.ensures.text (λ s at.
    if_ok _ _ c.records_text.result
    (λ t h. records_body {D = g.W.Disk} c.args.self.now s at c.head-records.result.records c.pages.result
    (ap (λ (h : Head). h.records) c.head-records.ensures.work) c.pages.ensures t h) c.records_text.ensures)
