use Rattle.std.proofs.Common.{refl}
use Rattle.quilt_words.specs.declared.command.Command.TheVariants as commands
use Rattle.quilt_map.proofs.answers.Answered.{layers_done, catalog_as}
use Rattle.quilt_map.proofs.answers.Asks.{told_here}
use Rattle.quilt_map.proofs.answers.Asked.{if_ok}
use Rattle.quilt_map.proofs.session.Session.layers.Goals as goal

pub returns-clause-answer : goal.returns-clause-answer
returns-clause-answer g c =
    told_here {D = g.W.Disk} commands.Layers refl c.args.self.now c.layers_text.result c.told.result c.told.ensures.text (λ s at.
    if_ok _ _ c.layers_text.result
    (λ t h. record {
      body = _;
      answered = layers_done s;
      written = h s.work at.work.numbers (catalog_as c.args.self.now s at c.entries.result.now c.entries.ensures.entries);
    }) c.layers_text.ensures.map)
