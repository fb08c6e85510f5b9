-- Segments in buckets by the blocks that the boxes round them touch.
use Rattle.std.specs.Prelude.{◌≡◌, ℕ, zero, suc, ◌*◌, ◌<◌, List, [], ◌++◌, length, Contains, ◌⊎◌, slice_index_or}
use Rattle.quilt_types.specs.declared.plane.Seg.{Seg}
use Rattle.quilt_join.specs.declared.span.Span.{Span}
use Rattle.quilt_join.specs.Boxes.{span_at, number_at, IsInSpan}
use Rattle.quilt_join.specs.Pairs.{ids_sharing}

-- the segments in the bucket of the block with this number
abbrev pub bucket_at : List (List (ℕ × Seg)) → ℕ → List (ℕ × Seg)
bucket_at lists n = slice_index_or lists n []

-- The buckets have the segments of the list and no others, each in the bucket of each block that the box round it touches.
pub record AreFilled (w columns : ℕ) (lists : List (List (ℕ × Seg))) (list : List (ℕ × Seg)) : Type 0 where
  pub positive : 0 < w
  pub size : length lists ≡ columns * columns
  pub from : (n : ℕ) (e : ℕ × Seg) → Contains (bucket_at lists n) e → Contains list e
  pub all : (e : ℕ × Seg) (n : ℕ) → Contains list e → IsInSpan (span_at w e.1) columns n → Contains (bucket_at lists n) e

-- one segment was put into the buckets of the first k blocks of a span
pub record HasBucketed (p : Span) (columns k : ℕ) (old new : List (List (ℕ × Seg))) (e : ℕ × Seg) : Type 0 where
  pub size : length new ≡ length old
  pub from : (n : ℕ) (f : ℕ × Seg) → Contains (bucket_at new n) f → Contains (bucket_at old n) f ⊎ (f ≡ e)
  pub kept : (n : ℕ) (f : ℕ × Seg) → Contains (bucket_at old n) f → Contains (bucket_at new n) f
  pub put : (i : ℕ) → i < k → Contains (bucket_at new (number_at p columns i)) e

-- the ids in the buckets of the first k blocks of a span whose segments share a point with this one
abbrev pub ids_over : Seg → Span → ℕ → List (List (ℕ × Seg)) → ℕ → List ℕ
ids_over s p columns lists zero = []
ids_over s p columns lists (suc k) = ids_over s p columns lists k ++ ids_sharing s (bucket_at lists (number_at p columns k))
