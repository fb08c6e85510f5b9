-- The pairs of ids of two lists of segments, and the answer that gives them.
use Rattle.std.specs.Prelude.{◌≡◌, ◌<◌, ◌≤◌, ℕ, List, map, filter, flat_map, length, Option, Some, None}
use Rattle.quilt_types.specs.declared.plane.Seg.{Seg}
use Rattle.quilt_types.specs.Crossings.{shares}

-- the ids of the segments that share a point with this one, in the list's order
abbrev pub ids_sharing : Seg → List (ℕ × Seg) → List ℕ
ids_sharing s b = map (λ f. f.0) (filter (λ f. shares s f.1) b)

-- the pairs of an id with each of a list
abbrev pub pairs_with : ℕ → List ℕ → List (ℕ × ℕ)
pairs_with id others = map (λ other. (id, other)) others

-- the pairs of ids whose segments share a point, in the order of the first list and then of the second
abbrev pub crossings_of : List (ℕ × Seg) → List (ℕ × Seg) → List (ℕ × ℕ)
crossings_of a b = flat_map (λ e. map (λ f. (e.0, f.0)) (filter (λ f. shares e.1 f.1) b)) a

-- how many pairs an answer has at most
abbrev pub most : ℕ
most = 1000000

-- all pairs, or nothing where there are more than the most
abbrev pub IsPairAnswer : List (ℕ × ℕ) → Option (List (ℕ × ℕ)) → Type 0
IsPairAnswer all None = most < length all
IsPairAnswer all (Some list) = (list ≡ all) × (length all ≤ most)
