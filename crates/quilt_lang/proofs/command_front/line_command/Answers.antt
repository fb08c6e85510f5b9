use Rattle.std.proofs.Common.{◌∙◌, [], arith, length, sym}
use Rattle.std.proofs.lemmas.Bool.{lt-ltb, le-ltb}
use Rattle.quilt_words.specs.Items.{line_limit}
use Rattle.quilt_lang.proofs.Commands.{long_form, odd_line, plain_line}
use Rattle.quilt_lang.proofs.command_front.line_command.Goals as goal

pub returns-then-line-gt-LINE_LIMIT-clause-form : goal.returns-then-line-gt-LINE_LIMIT-clause-form
returns-then-line-gt-LINE_LIMIT-clause-form c = λ n none.
    long_form c.args.format n c.args.line.now [] (lt-ltb line_limit (length c.args.line.now) (omega arith))

pub returns-then-not-is_plain_line-clause-form : goal.returns-then-not-is_plain_line-clause-form
returns-then-not-is_plain_line-clause-form c = λ n none.
    odd_line c.args.format n c.args.line.now (le-ltb line_limit (length c.args.line.now) (omega arith))
    (sym c.is_plain_line.ensures ∙ c.if-not-is_plain_line.true) none

pub returns-in-Some-clause-form : goal.returns-in-Some-clause-form
returns-in-Some-clause-form c = λ n none.
    plain_line c.args.format n c.args.line.now _ c.words_command.result (le-ltb line_limit (length c.args.line.now) (omega arith))
    (sym c.is_plain_line.ensures ∙ c.if-not-is_plain_line.false) (rw c.in-Some.is at c.few_words-few.ensures)
    (rw c.deref.ensures.0 at c.words_command.ensures) none

pub returns-in_ok-words-in-None-clause-form : goal.returns-in_ok-words-in-None-clause-form
returns-in_ok-words-in-None-clause-form c = λ n none.
    plain_line c.args.format n c.args.line.now _ c.words_command-in-None.result (le-ltb line_limit (length c.args.line.now) (omega arith))
    (sym c.is_plain_line.ensures ∙ c.if-not-is_plain_line.false) c.in_ok-words-in-None.ensures
    (rw c.deref-in-None.ensures.value at c.words_command-in-None.ensures) none
