use Rattle.quilt_map.specs.Sessions.{told_of}
use Rattle.quilt_map.proofs.answers.Asked.{still_here, has_as, if_err}
use Rattle.quilt_map.proofs.regions.plan_paint.Goals as goal

pub returns-then-number-eq0-clause-still : goal.returns-then-number-eq0-clause-still
returns-then-number-eq0-clause-still g c = still_here {D = g.W.Disk} c.args.book.now

pub returns-clause-sound : goal.returns-clause-sound
returns-clause-sound g c =
    if_err _ _ c.plan_rect.result (λ e h grid least has.
    h grid (has_as (told_of {D = g.W.Disk} c.args.book.now) c.args.number grid c.head-head.result c.args.book.now.work c.tree_of.result
    c.head-head.ensures.work c.tree_of.ensures has)) c.plan_rect.ensures.sound

pub returns-clause-plan : goal.returns-clause-plan
returns-clause-plan g c = rw (← c.head-head.ensures.work, ← c.tree_of.ensures) c.plan_rect.ensures.plan
