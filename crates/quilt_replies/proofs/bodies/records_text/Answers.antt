use Rattle.std.proofs.Common.{decimal, codes, [], ◌∷◌}
use Rattle.quilt_lang.specs.Trials.{spaced}
use Rattle.quilt_replies.proofs.Replies.{finished, records_line, pushed}
use Rattle.quilt_replies.proofs.bodies.records_text.Goals as goal

pub returns : goal.returns
returns c =
    finished c.finish.result _ (spaced (decimal c.args.records ∷ codes "of" ∷ decimal c.args.quota ∷ []) ∷ []) c.finish.ensures
    (records_line c.args.records c.args.quota _ _ _ _ _ c.new-text.ensures (pushed _ _ _ c.args.records c.in_ok-push_number.ensures c.from.ensures)
    c.in_ok-push.ensures.ok
    (pushed _ _ _ c.args.quota c.in_ok-push_number-2.ensures c.from-2.ensures) c.in_ok-push-2.ensures.ok)
