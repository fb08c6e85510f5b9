use Rattle.std.proofs.Common.{refl}
use Rattle.quilt_words.specs.declared.command.Command.TheVariants as commands
use Rattle.quilt_map.proofs.answers.Answered.{edition_body}
use Rattle.quilt_map.proofs.answers.Asks.{told_here}
use Rattle.quilt_map.proofs.answers.Asked.{if_ok}
use Rattle.quilt_map.proofs.session.Session.edition.Goals as goal

pub returns-clause-answer : goal.returns-clause-answer
returns-clause-answer g c =
    told_here {D = g.W.Disk} commands.Edition refl c.args.self.now c.edition_text.result c.told.result c.told.ensures.text (λ s at.
    if_ok _ _ c.edition_text.result (λ t h. edition_body {D = g.W.Disk} c.args.self.now s at c.head.result.edition c.head.ensures.edition.0 t h)
    c.edition_text.ensures)
