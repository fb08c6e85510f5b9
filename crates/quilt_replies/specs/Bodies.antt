-- The lines of replies.
use Rattle.std.specs.Prelude.{◌≡◌, ℕ, ◌≤◌, ◌==◌, List, [], ◌∷◌, ◌++◌, flat_map, count_by, slice_index, codes, decimal, if◌then◌else◌}
use Rattle.quilt_types.specs.declared.plane.Kind.{Kind}
use Rattle.quilt_types.specs.declared.plane.Kind.TheVariants as kinds
use Rattle.quilt_types.specs.Fractions.{Fraction}
use Rattle.quilt_types.specs.Plane.{side}
use Rattle.quilt_record.specs.declared.entry.Entry.{Entry}
use Rattle.quilt_lang.specs.Trials.{spaced}
use Rattle.quilt_replies.specs.Answers.{fraction}

-- lines, each with its newline
abbrev pub lines : List (List ℕ) → List ℕ
lines body = flat_map (λ l. l ++ 10 ∷ []) body

-- the words of a kind: a capacity of 1 is not written
abbrev pub words_of_kind : Kind → List (List ℕ)
words_of_kind kinds.Region = codes "region" ∷ []
words_of_kind (kinds.Points bucket) = codes "points" ∷ (if bucket == 1 then [] else decimal bucket ∷ [])
words_of_kind (kinds.Lines threshold) = codes "lines" ∷ decimal threshold ∷ []

-- the line of a layer, by its entry
abbrev pub entry_line : Entry → List ℕ
entry_line e = spaced (e.name ∷ words_of_kind e.kind)

-- how many of the sides are 2 ^ k, for each k from 0 to 12
pub record HasCounts (counts : List ℕ) (sides : List ℕ) : Type 0 where
  pub each : (k : ℕ) → k ≤ 12 → slice_index counts k ≡ count_by (λ s. s == side k) sides

-- the line of a segment's part: its id, and the fractions at which the part begins and ends
abbrev pub clip_line : ℕ × Fraction × Fraction → List ℕ
clip_line e = spaced (decimal e.0 ∷ fraction e.1 ∷ fraction e.2 ∷ [])
