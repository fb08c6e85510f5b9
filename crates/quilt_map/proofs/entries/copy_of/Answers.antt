-- Each entry comes behind those before it.
use Rattle.std.proofs.Common.{◌+◌, sym, subst}
use Rattle.quilt_map.proofs.states.Catalogs.{IsCopied, copied_new, copied_more, same_read}
use Rattle.quilt_map.proofs.entries.copy_of.Goals as goal

pub insert-requires-clause-new : goal.insert-requires-clause-new
insert-requires-clause-new c =
    copied_new c.loop-e.copy c.entries-e-items.result.now c.loop-e.e-index c.entry_copy.result c.loop-e.invariant c.loop-e-test.true
    (same_read c.entries-e-items.result.now c.loop-e.e-index c.e-item.result c.entry_copy.result c.e-item.is c.entry_copy.ensures)

pub loop-e-preserved : goal.loop-e-preserved
loop-e-preserved c =
    subst (λ copy. IsCopied copy c.entries-e-items.result.now (c.loop-e.e-index + 1)) (sym c.insert.ensures)
    (copied_more c.loop-e.copy c.entries-e-items.result.now c.loop-e.e-index c.entry_copy.result c.loop-e.invariant c.loop-e-test.true
    (same_read c.entries-e-items.result.now c.loop-e.e-index c.e-item.result c.entry_copy.result c.e-item.is c.entry_copy.ensures))
