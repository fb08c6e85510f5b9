use Rattle.quilt_store.proofs.Counts.{AreFresh}
use Rattle.quilt_store.proofs.memory.MemStore.new.Given as goal

abbrev pub invariant-loop-page : goal.invariant-loop-page
invariant-loop-page l = AreFresh l.all.items l.free.items l.page
