use Rattle.std.proofs.Common.{decimal, codes, [], ◌∷◌}
use Rattle.quilt_lang.specs.Trials.{spaced}
use Rattle.quilt_replies.proofs.Replies.{finished, edition_line, pushed}
use Rattle.quilt_replies.proofs.bodies.edition_text.Goals as goal

pub returns : goal.returns
returns c =
    finished c.finish.result _ (spaced (codes "edition" ∷ decimal c.args.number ∷ []) ∷ []) c.finish.ensures
    (edition_line c.args.number _ _ _ _ c.new-text.ensures c.in_ok-push.ensures.ok
    (pushed _ _ _ c.args.number c.in_ok-push_number.ensures c.from.ensures) c.in_ok-push-2.ensures.ok)
