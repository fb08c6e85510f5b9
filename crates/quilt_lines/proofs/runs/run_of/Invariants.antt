use Rattle.std.proofs.Common.{◌≡◌, ℕ, ◌+◌, ◌<◌, ◌≤◌, None, Contains, take}
use Rattle.quilt_near.specs.Knowing.{known_seg}
use Rattle.quilt_lines.proofs.runs.run_of.Given as goal

abbrev pub invariant-loop-id : goal.invariant-loop-id
invariant-loop-id l = record {
  each : (q : ℕ) → l.run.first ≤ q → q ≤ l.run.last → Contains (take l.id-index l.ids) q × (known_seg l.known q ≡ None);
  few : l.run.last + 1 ≤ l.run.first + l.id-index;
  order : l.run.first ≤ l.run.last + 1;
  size : l.run.last < l.run.first + 255;
}
