use Rattle.std.proofs.Common.{◌∙◌, arith, length}
use Rattle.std.proofs.lemmas.Bool.{lt-ltb, le-ltb}
use Rattle.std.proofs.lemmas.Result.{IfOk-weaker}
use Rattle.quilt_words.specs.Items.{line_limit}
use Rattle.quilt_lang.proofs.Commands.{long_form, held_form}
use Rattle.quilt_lang.proofs.command_front.held_command.Goals as goal

pub returns-then-line-gt-LINE_LIMIT : goal.returns-then-line-gt-LINE_LIMIT
returns-then-line-gt-LINE_LIMIT c = long_form c.args.format c.args.level c.args.line.now _ (lt-ltb line_limit (length c.args.line.now) (omega arith))

pub returns : goal.returns
returns c =
    let spelled = rw (c.in_ok-further.ensures c.args.line.now) at c.parse_line.ensures.form in
    IfOk-weaker c.answered.result _ _
    (λ r is. held_form c.args.format c.args.level c.args.line.now _ c.args.what (le-ltb line_limit (length c.args.line.now) (omega arith)) c.requires
    ∙ is _ spelled)
    c.answered.ensures
