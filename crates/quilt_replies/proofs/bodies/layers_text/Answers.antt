use Rattle.std.proofs.Common.{map, ◌∙◌, ap}
use Rattle.std.proofs.lemmas.List.{take_all}
use Rattle.quilt_replies.specs.Bodies.{lines, entry_line}
use Rattle.quilt_replies.proofs.Replies.{finished, listed_reply}
use Rattle.quilt_replies.proofs.bodies.layers_text.Goals as goal

pub returns-clause-map : goal.returns-clause-map
returns-clause-map c =
    listed_reply c.finish.result c.args.entries.now (finished c.finish.result c.loop-e.text (map entry_line c.args.entries.now) c.finish.ensures
    (c.loop-e.invariant ∙ ap (λ es. lines (map entry_line es)) (take_all c.loop-e.e-index c.args.entries.now c.loop-e-test.false)))
