use Rattle.std.proofs.Common.{◌≡◌, ◌∙◌, sym, string_bytes}
use Rattle.std.proofs.lemmas.Result.{IfOk-weaker}
use Rattle.quilt_top.specs.Trying.{summary_of}
use Rattle.quilt_top.proofs.openings.Lines.{summary_pieces, summary_pieces_are}
use Rattle.quilt_top.proofs.trial_run.summary.Goals as goal

pub returns : goal.returns
returns c =
    let done = c.args.tally.done in
    let refused = c.args.tally.refused in
    IfOk-weaker c.format.result (λ text. string_bytes text ≡ summary_pieces done refused c.args.records c.args.edition)
    (λ text. string_bytes text ≡ summary_of done refused c.args.records c.args.edition)
    (λ text is. is ∙ sym (summary_pieces_are done refused c.args.records c.args.edition)) c.format.ensures.ok
