use Rattle.std.proofs.Common.{◌≡◌, true, ◌+◌, ◌*◌, ◌-◌, ◌≤◌, vec_len}
use Rattle.quilt_record.specs.declared.key.Key.{Key}
use Rattle.std.specs.List.{list_all}
use Rattle.std.specs.Ordering.{is_le}
use Rattle.quilt_record.specs.Records.{key_cmp}
use Rattle.quilt_btree.specs.Lists.{is_from_to}
use Rattle.quilt_store.specs.Calls.{IsOnlyRead}
use Rattle.quilt_world.specs.Tale.{Goes}
use Rattle.quilt_btree.proofs.ranges.Rests.{GoesAsFar}
use Rattle.quilt_btree.proofs.tree.Tree.add_rest.Given as goal

abbrev pub invariant-loop-k : goal.invariant-loop-k
invariant-loop-k g l = record {
  goes_on : GoesAsFar (g.S.PageStore.told l.initial.store) l.self l.high l.most l.initial.next l.initial.records.items l.next l.records.items;
  room : vec_len l.records ≤ l.most;
  within : (low : Key) → is_le (key_cmp low l.initial.next) ≡ true → list_all (is_from_to low l.high) l.initial.records.items ≡ true
      → (is_le (key_cmp low l.next) ≡ true) × (list_all (is_from_to low l.high) l.records.items ≡ true);
  more : vec_len l.initial.records ≤ vec_len l.records;
  left : IsOnlyRead g.S.PageStore l.initial.store l.store;
  reads : Goes (λ old new. new + 3 * vec_len l.initial.records ≤ old + 3 * vec_len l.records) (g.S.PageStore.reads l.initial.store)
      (g.S.PageStore.reads l.store);
}

abbrev pub decreases-loop-k : goal.decreases-loop-k
decreases-loop-k g l = l.most - vec_len l.records
