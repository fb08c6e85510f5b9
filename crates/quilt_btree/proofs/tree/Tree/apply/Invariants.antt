use Rattle.std.proofs.Common.{◌≡◌, ◌+◌, ◌-◌, ◌≤◌, take, length}
use Rattle.quilt_world.specs.Tale.{Goes}
use Rattle.quilt_btree.specs.Batches.{cost, looks}
use Rattle.quilt_btree.proofs.batches.Whole.{IsMade}
use Rattle.quilt_btree.proofs.tree.Tree.apply.Given as goal

abbrev pub invariant-loop-done : goal.invariant-loop-done
invariant-loop-done g l = record {
  made : IsMade (g.S.PageStore.told l.initial.store) (g.S.PageStore.told l.store) (g.S.PageStore.free l.initial.store) (g.S.PageStore.free l.store)
      (g.S.PageStore.size l.initial.store) l.initial.self l.self (take l.done l.run);
  in_range : l.done ≤ length l.run;
  faults : g.S.PageStore.faults l.initial.store ≤ g.S.PageStore.faults l.store;
  size : g.S.PageStore.size l.store ≡ g.S.PageStore.size l.initial.store;
  later : g.S.PageStore.later l.initial.store l.store;
  changed : g.S.PageStore.changed l.store ≤ g.S.PageStore.changed l.initial.store + cost (take l.done l.run);
  reads : Goes (λ old new. new ≤ old + looks (take l.done l.run)) (g.S.PageStore.reads l.initial.store) (g.S.PageStore.reads l.store);
  start : l.done ≡ 0 → (g.S.PageStore.told l.store ≡ g.S.PageStore.told l.initial.store) × (l.self ≡ l.initial.self);
}

abbrev pub decreases-loop-done : goal.decreases-loop-done
decreases-loop-done g l = length l.run - l.done
