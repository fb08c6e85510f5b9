use Rattle.std.proofs.Common.{map, ◌∙◌}
use Rattle.quilt_top.proofs.usage.Parses.{free_and_simple, not_taken, taken, texts_are}
use Rattle.quilt_top.proofs.command_line.parsed.Goals as goal

pub returns-in-Ok : goal.returns-in-Ok
returns-in-Ok c =
    let ws = map (λ w. w.now) c.args.words.now in
    let is = c.in_ok-reader.ensures in
    taken _ ws c.in-Ok.matches is (texts_are c.args.words.now c.are_texts.ensures) (c.in-Ok.ensures.kinds (free_and_simple _ is)) c.in-Ok.ensures.matches

pub returns : goal.returns
returns c =
    let ws = map (λ w. w.now) c.args.words.now in
    let is = c.in_ok-reader.ensures in
    not_taken _ ws c.in-Err.error is (texts_are c.args.words.now c.are_texts.ensures) (c.in-Err.ensures.kinds (free_and_simple _ is))
    (λ e. c.in_default.not-OutOfMemory (c.kind.ensures ∙ e))
