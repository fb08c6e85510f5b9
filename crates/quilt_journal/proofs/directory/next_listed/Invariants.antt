use Rattle.std.proofs.Common.{◌≡◌, ◌≤◌, ◌<◌, ◌-◌, ℕ, false}
use Rattle.quilt_journal.specs.Changed.{has_bit}
use Rattle.quilt_journal.proofs.directory.next_listed.Given as goal

abbrev pub invariant-loop-page : goal.invariant-loop-page
invariant-loop-page l = record {
  least : l.from ≤ l.page;
  before : (i : ℕ) → l.from ≤ i → i < l.page → has_bit l.bits i ≡ false;
}

abbrev pub decreases-loop-page : goal.decreases-loop-page
decreases-loop-page l = l.end - l.page
