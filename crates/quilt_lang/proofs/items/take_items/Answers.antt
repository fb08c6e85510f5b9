use Rattle.quilt_lang.proofs.Takes.{gave_none, gave_next, fewer, may_end}
use Rattle.quilt_lang.proofs.items.take_items.Goals as goal

pub loop-item-init : goal.loop-item-init
loop-item-init c = gave_none _ _ _ _

pub loop-item-preserved : goal.loop-item-preserved
loop-item-preserved c =
    let given = rw c.in-Some.is at c.in_ok-item.ensures.given in
    let next = gave_next _ _ _ _ _ _ _ _ c.loop-item.invariant c.in_ok-item.ensures.level given in
    rw c.in_ok-push.ensures.items next

pub loop-item-smaller : goal.loop-item-smaller
loop-item-smaller c =
    let given = rw c.in-Some.is at c.in_ok-item.ensures.given in
    rw c.in_ok-item.ensures.level (fewer c.args.ended _ _ _ _ _ (may_end c.args.ended) given)
