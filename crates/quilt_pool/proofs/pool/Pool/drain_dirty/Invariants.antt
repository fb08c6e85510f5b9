use Rattle.std.proofs.Common.{◌≡◌, ℕ, ◌-◌, ◌<◌, ◌≤◌, false, [], length, filter}
use Rattle.std.specs.Map.{keys_of}
use Rattle.std.specs.List.{range_with_len}
use Rattle.quilt_world.specs.Doors.{KeepsDevice}
use Rattle.quilt_world.specs.Tale.{Goes}
use Rattle.quilt_journal.specs.Writing.{Writing}
use Rattle.quilt_pool.specs.Entries.{frame_at, bytes_or, is_dirty, is_marked, AreBelow}
use Rattle.quilt_pool.specs.Keeping.{KeepsWork}
use Rattle.quilt_pool.proofs.pool.Pool.drain_dirty.Given as goal

abbrev pub invariant-bits : goal.invariant-bits
invariant-bits g l = record {
  device : KeepsDevice g.D.Disk.size g.D.Disk.door l.initial.disk l.disk;
  faults : g.D.Disk.faults l.initial.disk ≤ g.D.Disk.faults l.disk;
  low : 1 ≤ l.from;
  high : l.from ≤ l.pages;
  pages : l.journal.pages ≡ l.initial.journal.pages;
  state : l.journal.state ≡ l.initial.journal.state;
  bits : length l.journal.changed ≡ length l.initial.journal.changed;
  below : AreBelow l.initial.journal.pages l.self.table.entries;
  order : keys_of l.self.table.entries ≡ keys_of l.initial.self.table.entries;
  bytes : (i : ℕ) → bytes_or [] (frame_at l.self.table.entries i) ≡ bytes_or [] (frame_at l.initial.self.table.entries i);
  cap : l.self.table.cap ≡ l.initial.self.table.cap;
  marked : (i : ℕ) → is_marked l.self.table.entries l.journal.changed i ≡ is_marked l.initial.self.table.entries l.initial.journal.changed i;
  drained : (i : ℕ) → i < l.from → is_dirty l.self.table.entries i ≡ false;
  others : (i : ℕ) → l.from ≤ i → is_dirty l.self.table.entries i ≡ is_dirty l.initial.self.table.entries i;
  kept : Goes (KeepsWork l.initial.journal.pages l.initial.self.table.entries l.self.table.entries l.initial.journal.changed l.journal.changed)
      (g.D.Disk.told l.initial.disk) (g.D.Disk.told l.disk);
  writes : Goes (Writing (length (filter (is_dirty l.initial.self.table.entries) (range_with_len 1 (l.from - 1)))))
      (g.D.Disk.told l.initial.disk) (g.D.Disk.told l.disk);
}

abbrev pub decreases-bits : goal.decreases-bits
decreases-bits g l = l.pages - l.from
