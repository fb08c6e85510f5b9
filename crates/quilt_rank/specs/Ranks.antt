-- Lists of ids with distances, in the order of distance and then id.
use Rattle.std.specs.Prelude.{ℕ, ◌*◌, Bool, ◌&&◌, nat_lt, List, [], ◌∷◌, length, take, ◌==◌}
use Rattle.std.specs.Ordering.{nat_cmp, ordering_then}
use Rattle.std.specs.BTreeSet.{insert_key}
use Rattle.std.specs.declared.cmp.Ordering.{Ordering}
use Rattle.quilt_types.specs.declared.plane.Pixel.{Pixel}
use Rattle.quilt_types.specs.declared.plane.Seg.{Seg}
use Rattle.quilt_types.specs.Fractions.{Fraction}
use Rattle.quilt_types.specs.Segments.{square_distance}
use Rattle.quilt_clip.specs.Compared.{compared}

-- by distance and then id
abbrev pub rank_cmp : ℕ × Fraction → ℕ × Fraction → Ordering
rank_cmp a b = ordering_then (compared a.1 b.1) (nat_cmp a.0 b.0)

-- an id with its distance comes to its place, unless it is there
abbrev pub added : List (ℕ × Fraction) → ℕ × Fraction → List (ℕ × Fraction)
added rs e = insert_key rank_cmp rs e

-- the first k after one more segment
abbrev pub with_ranked : Pixel → ℕ → List (ℕ × Fraction) → ℕ × Seg → List (ℕ × Fraction)
with_ranked p k rs e = take k (added rs (e.0, square_distance p e.1))

-- the distance of the last one
abbrev pub last_far : List (ℕ × Fraction) → Fraction
last_far [] = record { num = 0; den = 1 }
last_far (r ∷ []) = r.1
last_far (r ∷ s ∷ rs) = last_far (s ∷ rs)

-- there are k, and a whole distance is greater than that of the last
abbrev pub is_past_ranks : ℕ → List (ℕ × Fraction) → ℕ → Bool
is_past_ranks k rs d = (length rs == k) && nat_lt (last_far rs).num (d * (last_far rs).den)
