use Rattle.std.proofs.Common.{◌≡◌, ◌⊎◌, ◌<◌, ◌≤◌, take, Contains}
use Rattle.quilt_record.specs.declared.entry.Entry.{Entry}
use Rattle.quilt_audit.proofs.checker.next_number.Given as goal

abbrev pub invariant-loop-e : goal.invariant-loop-e
invariant-loop-e l = record {
  over : l.above < l.next;
  most : l.next ≤ 256;
  reached : (l.next ≡ 256) ⊎ ((e : Entry) × Contains l.entries e × (e.number ≡ l.next));
  least : (e : Entry) → Contains (take l.e-index l.entries) e → (e.number ≤ l.above) ⊎ ((l.next ≤ e.number) × (e.number ≤ 255));
}
