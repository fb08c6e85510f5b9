use Rattle.quilt_lang.specs.Reading.{HasNewline}
use Rattle.quilt_lang.proofs.Groups.{cuts_newline}
use Rattle.quilt_lang.proofs.first_line.first_line.Goals as goal

pub returns-in-Some-clause-found : goal.returns-in-Some-clause-found
returns-in-Some-clause-found c =
    let at : HasNewline c.args.text.now c.in-Some.k = rw c.in-Some.is at c.newline.ensures in
    cuts_newline c.args.ended c.args.text.now c.in-Some.k at
