use Rattle.std.proofs.Common.{refl, arith}
use Rattle.quilt_desk.proofs.CrashLaws.{left_none, left_more, left_all, left_can, whole-take}
use Rattle.quilt_desk.proofs.desk.Desk.crash.Goals as goal

pub after-state-requires : goal.after-state-requires
after-state-requires c = rw c.deref.ensures.value (whole-take c.args.events c.args.self.now.log.items c.args.self.now.whole)

pub set_page-requires : goal.set_page-requires
set_page-requires c = omega (arith, c.loop-page.invariant.size, c.pages-page-end.ensures)

pub loop-page-init : goal.loop-page-init
loop-page-init c = left_none _ _ _ _ c.in_ok-image.ensures

pub loop-page-preserved : goal.loop-page-preserved
loop-page-preserved c =
    rw c.set_page.ensures (left_more _ _ _ _ _ _ c.loop-page.invariant (omega (arith, c.pages-page-end.ensures))
    (rw (c.left.ensures, c.after-state.ensures, c.page.ensures, c.deref.ensures.value) refl))

pub returns-clause-left : goal.returns-clause-left
returns-clause-left c = left_can _ _ c.args.choice.now _ (left_all _ _ _ _ c.loop-page.page c.loop-page.invariant (omega (arith, c.pages-page-end.ensures)))

pub returns-clause-chosen : goal.returns-clause-chosen
returns-clause-chosen c = left_all _ _ _ _ c.loop-page.page c.loop-page.invariant (omega (arith, c.pages-page-end.ensures))
