use Rattle.std.proofs.Common.{◌≡◌, ℕ, ◌<◌, ◌≤◌, length, slice_index}
use Rattle.quilt_raster.proofs.paint.fill_run.Given as goal

abbrev pub invariant-loop-place : goal.invariant-loop-place
invariant-loop-place l = record {
  long : length l.cells ≡ length l.initial.cells;
  ends : l.from ≤ l.to → l.place ≤ l.to;
  none : l.to ≤ l.from → l.place ≡ l.from;
  inside : (k : ℕ) → l.from ≤ k → k < l.place → slice_index l.cells k ≡ l.colour;
  before : (k : ℕ) → k < l.from → slice_index l.cells k ≡ slice_index l.initial.cells k;
  behind : (k : ℕ) → l.place ≤ k → slice_index l.cells k ≡ slice_index l.initial.cells k;
}
