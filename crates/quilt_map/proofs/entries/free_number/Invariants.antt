use Rattle.std.proofs.Common.{◌≡◌, ℕ, ◌<◌, ◌≤◌, ◌==◌, true}
use Rattle.std.specs.List.{list_any}
use Rattle.quilt_map.proofs.entries.free_number.Given as goal

abbrev pub invariant-loop-number : goal.invariant-loop-number
invariant-loop-number l = (k : ℕ) → 1 ≤ k → k < l.number → list_any (λ e. e.number == k) l.entries ≡ true
