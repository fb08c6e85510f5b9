-- The segments in the order of their distance from a pixel.
use Rattle.std.specs.Prelude.{ℕ, Bool, ◌&&◌, ◌||◌, not, nat_le, List, [], ◌∷◌, fold, take, if◌then◌else◌}
use Rattle.std.specs.FinMap as finmap
use Rattle.quilt_types.specs.declared.plane.Pixel.{Pixel}
use Rattle.quilt_types.specs.Layers.{SegMap}
use Rattle.quilt_types.specs.Fractions.{Fraction, is_less}
use Rattle.quilt_types.specs.Segments.{square_distance}

-- nearer, or as near with an id that is no greater
abbrev pub comes_first : ℕ × Fraction → ℕ × Fraction → Bool
comes_first a b = is_less a.1 b.1 || (not (is_less b.1 a.1) && nat_le a.0 b.0)

-- the list, in order of distance and then id, with one more id and distance at its place
abbrev pub placed : List (ℕ × Fraction) → ℕ × Fraction → List (ℕ × Fraction)
placed [] e = e ∷ []
placed (f ∷ fs) e = if comes_first e f then e ∷ f ∷ fs else f ∷ placed fs e

-- each segment's id with its distance, by distance and then id: the first k
unfoldable pub ranked : SegMap → Pixel → ℕ → List (ℕ × Fraction)
ranked segs p k = take k (fold (λ es e. placed es (e.0, square_distance p e.1)) [] (finmap.entries segs))
