use Rattle.std.proofs.Common.{◌≡◌, ℕ, suc, ◌<◌, true, get_or}
use Rattle.std.specs.Ordering.{is_lt}
use Rattle.quilt_record.specs.declared.record.Record.{Record}
use Rattle.quilt_record.specs.Records.{key_cmp}
use Rattle.quilt_edits.proofs.edits.is_in_order.Given as goal

abbrev pub invariant-loop-i : goal.invariant-loop-i
invariant-loop-i l = (k : ℕ) (d : Record) → suc k < l.i → is_lt (key_cmp (get_or l.records k d).key (get_or l.records (suc k) d).key) ≡ true
