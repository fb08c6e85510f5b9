use Rattle.std.proofs.Common.{◌≡◌, ℕ, ◌<◌, ◌≤◌, true, All, take, map, length}
use Rattle.std.specs.FinMap as finmap
use Rattle.std.specs.Ordering.{nat_cmp}
use Rattle.quilt_types.specs.Layers.{SegMap, BlockSet, IsLineMap, is_in_square}
use Rattle.quilt_loc.specs.Codes.{Rises}
use Rattle.quilt_lines.specs.Layers.{fact_record, segment_facts}
use Rattle.quilt_lines.specs.Reads.{ids_of}
use Rattle.quilt_lines.specs.Said.{SaySegments}
use Rattle.quilt_lines.proofs.view.LineView.all_segments.Given as goal

abbrev pub invariant-loop-r : goal.invariant-loop-r
invariant-loop-r l = record {
  segments : (t : ℕ) (segs : SegMap) (cover : BlockSet) → IsLineMap l.self.level t segs cover
      → l.records ≡ map (fact_record l.self.level l.self.layer) (segment_facts segs) → l.list ≡ take l.r-index (finmap.entries segs);
  inside : All (λ e. is_in_square l.self.level e.1 ≡ true) l.list;
  order : Rises nat_cmp (ids_of l.list);
  below : All (λ e. e.0 < l.least) l.list;
  said : All (λ r. r.key.layer ≡ l.self.layer) l.records → SaySegments l.self.level l.self.layer (take l.r-index l.records) l.list;
  many : length l.list ≡ l.r-index;
  smallest : (k : ℕ) → All (λ e. e.0 < k) l.list → l.least ≤ k;
}
