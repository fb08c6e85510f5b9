use Rattle.std.proofs.Common.{◌≡◌, ◌∙◌, string_bytes}
use Rattle.std.proofs.lemmas.Result.{IfOk-weaker}
use Rattle.quilt_top.specs.Headline.{new_line}
use Rattle.quilt_top.proofs.openings.Lines.{pieces, pieces_are}
use Rattle.quilt_top.proofs.make.new_line.Goals as goal

pub returns : goal.returns
returns c =
    IfOk-weaker c.format.result (λ line. string_bytes line ≡ pieces c.args.pages c.args.level) (λ line. string_bytes line ≡ new_line c.args.pages c.args.level)
    (λ line is. is ∙ pieces_are c.args.pages c.args.level) c.format.ensures.ok
