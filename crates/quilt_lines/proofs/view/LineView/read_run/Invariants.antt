use Rattle.std.proofs.Common.{◌≡◌, ℕ, ◌+◌, ◌<◌, ◌≤◌, Some, None}
use Rattle.quilt_types.specs.declared.plane.Seg.{Seg}
use Rattle.quilt_near.specs.Knowing.{Knows, StaysKnown, known_seg, many_known}
use Rattle.quilt_lines.specs.Layers.{ShowsLines}
use Rattle.quilt_lines.specs.Marks.{IsMark}
use Rattle.quilt_lines.proofs.view.LineView.read_run.Given as goal

abbrev pub invariant-loop-r : goal.invariant-loop-r
invariant-loop-r g l = record {
  next : l.next ≡ l.fn.run.first + l.r-index;
  known : Knows l.self.level (ShowsLines (g.S.PageStore.told l.fn.store) l.self.tree l.self.layer l.self.level)
      (IsMark (g.S.PageStore.told l.fn.store) l.self.tree) l.known;
  stays : StaysKnown l.fn.known l.known;
  many : many_known l.known ≡ many_known l.fn.known + l.r-index;
  away : (q : ℕ) → l.fn.run.first + l.r-index ≤ q → q ≤ l.fn.run.last → known_seg l.known q ≡ None;
  there : (q : ℕ) → l.fn.run.first ≤ q → q < l.fn.run.first + l.r-index → (s : Seg) × (known_seg l.known q ≡ Some s);
}
