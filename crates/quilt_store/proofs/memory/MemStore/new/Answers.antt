use Rattle.std.proofs.Common.{refl}
use Rattle.quilt_store.proofs.Counts.{one_more}
use Rattle.quilt_store.proofs.memory.MemStore.new.Goals as goal

pub loop-page-preserved : goal.loop-page-preserved
loop-page-preserved c =
    rw (c.in_ok-push.ensures.items, c.in_ok-push-2.ensures.items)
    (one_more c.loop-page.all.items c.loop-page.free.items c.loop-page.page _ refl c.loop-page.invariant)
