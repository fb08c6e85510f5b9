-- Entries in the order of their names.
use Rattle.std.specs.Prelude.{◌≡◌, ℕ, ◌≤◌, true, List, [], ◌∷◌, length, if◌then◌else◌}
use Rattle.std.specs.List.{list_all}
use Rattle.std.specs.Ordering.{nat_cmp, is_lt}
use Rattle.std.specs.Cmp.Lexicographic.{slice_cmp}
use Rattle.std.specs.declared.cmp.Ordering.{Ordering}
use Rattle.quilt_record.specs.declared.entry.Entry.{Entry}

-- names in the order of their bytes
abbrev pub name_cmp : List ℕ → List ℕ → Ordering
name_cmp s t = slice_cmp nat_cmp s t

-- each name is before all that follow, so no two are the same
abbrev pub NamesAscend : List Entry → Type 0
NamesAscend [] = Unit {0}
NamesAscend (e ∷ es) = (list_all (λ f. is_lt (name_cmp e.name f.name)) es ≡ true) × NamesAscend es

-- the layers of a map as a list of entries: at most 255, in the order of their names, no name twice
pub record IsCatalog (es : List Entry) : Type 0 where
  pub few : length es ≤ 255
  pub order : NamesAscend es

-- with an entry before the first that has a greater name
abbrev pub with_entry : Entry → List Entry → List Entry
with_entry e [] = e ∷ []
with_entry e (f ∷ es) = if is_lt (name_cmp e.name f.name) then e ∷ f ∷ es else f ∷ with_entry e es
