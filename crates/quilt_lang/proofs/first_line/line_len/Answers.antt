use Rattle.std.proofs.Common.{sym, ◌∙◌}
use Rattle.quilt_lang.specs.Reading.{HasNewline}
use Rattle.quilt_lang.proofs.Pieces.{begins_cut}
use Rattle.quilt_lang.proofs.Counts.{front_newline}
use Rattle.quilt_lang.proofs.Groups.{cuts_newline}
use Rattle.quilt_lang.proofs.first_line.line_len.Goals as goal

pub returns-in-Some-clause-found : goal.returns-in-Some-clause-found
returns-in-Some-clause-found c =
    let at : HasNewline c.args.text.now c.in-Some.k = rw c.in-Some.is at c.newline_behind.ensures in
    cuts_newline c.args.ended c.args.text.now c.in-Some.k at

pub returns-in-Some-clause-loud : goal.returns-in-Some-clause-loud
returns-in-Some-clause-loud c =
    let at : HasNewline c.args.text.now c.in-Some.k = rw c.in-Some.is at c.newline_behind.ensures in
    sym (begins_cut c.args.text.now c.in-Some.k at) ∙ c.requires.loud

pub returns-in-Some-clause-front : goal.returns-in-Some-clause-front
returns-in-Some-clause-front c = λ open_.
    let at : HasNewline c.args.text.now c.in-Some.k = rw c.in-Some.is at c.newline_behind.ensures in
    front_newline c.args.text.now c.in-Some.k at
