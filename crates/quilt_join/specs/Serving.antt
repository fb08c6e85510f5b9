-- Buckets that serve to find what shares a point with a segment.
use Rattle.std.specs.Prelude.{ℕ, ◌^◌, List, map}
use Rattle.std.specs.List.Sorted.{IsStrictlyIncreasing}
use Rattle.quilt_types.specs.declared.plane.Seg.{Seg}
use Rattle.quilt_join.specs.declared.buckets.Buckets.{Buckets}
use Rattle.quilt_join.specs.Buckets.{AreFilled}

-- the buckets have the segments of a list whose ids rise
pub record Serves (buckets : Buckets) (list : List (ℕ × Seg)) : Type 0 where
  pub filled : AreFilled (2 ^ buckets.shift) buckets.columns buckets.lists.items list
  pub rising : IsStrictlyIncreasing (map (λ e. e.0) list)
