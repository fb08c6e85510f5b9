use Rattle.std.proofs.Common.{decimal, [], ◌∷◌}
use Rattle.quilt_replies.proofs.Replies.{finished, number_line}
use Rattle.quilt_replies.proofs.bodies.number_text.Goals as goal

pub returns : goal.returns
returns c = finished c.finish.result _ (decimal c.args.number ∷ []) c.finish.ensures
    (number_line c.args.number _ _ _ c.new-text.ensures c.in_ok-push_number.ensures c.in_ok-push.ensures.ok)
