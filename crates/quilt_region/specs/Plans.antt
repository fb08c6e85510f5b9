-- The records that go and those that come when a region layer becomes another grid.
use Rattle.std.specs.Prelude.{◌≡◌, ◌↔◌, ◌⊎◌, ◌<◌, ℕ, Bool, true, ◌&&◌, not, ◌==◌, List, [], ◌++◌, map, filter, Contains}
use Rattle.std.specs.List.{list_any}
use Rattle.quilt_types.specs.declared.plane.Block.{Block}
use Rattle.quilt_types.specs.Layers.{Grid}
use Rattle.quilt_types.specs.Facts.{same_block}
use Rattle.quilt_types.specs.Quadtrees.{leaves}
use Rattle.quilt_loc.specs.Codes.{code_from, code_to}
use Rattle.quilt_record.specs.declared.record.Record.{Record}
use Rattle.quilt_record.specs.declared.edits.Edits.{Edits}
use Rattle.quilt_blocks.specs.Cutting.{leaves_by_code}
use Rattle.quilt_spell.specs.OfLayer.{leaf_record}
use Rattle.quilt_region.specs.Regions.{region_records}

-- the grid has this leaf, of this colour
abbrev pub is_leaf : ℕ → Grid → Block × ℕ → Bool
is_leaf n g e = list_any (λ d. same_block d.0 e.0 && (d.1 == e.1)) (leaves n g)

-- the records of the leaves of one grid that are no leaves of the other, in the order of their codes
unfoldable pub records_without : ℕ → ℕ → Grid → Grid → List Record
records_without n layer g other = map (leaf_record n layer) (filter (λ e. not (is_leaf n other e)) (leaves_by_code n g))

-- the edits take out the records that only the old grid has, and put in those that only the new one has
pub record ReplacesGrid (n layer : ℕ) (old new : Grid) (edits : Edits) : Type 0 where
  pub remove : edits.remove ≡ records_without n layer old new
  pub add : edits.add ≡ records_without n layer new old

-- the edits put in all records of the grid, and take none out
pub record PutsAllRecords (n layer : ℕ) (g : Grid) (edits : Edits) : Type 0 where
  pub remove : edits.remove ≡ []
  pub add : edits.add ≡ region_records n layer g

-- the records after the edits: those that were there and were not taken out, and those that were put in
abbrev pub IsEditedBy : List Record → Edits → List Record → Type 0
IsEditedBy rs edits now = (r : Record) → Contains now r ↔ ((Contains rs r × (Contains edits.remove r → ⊥)) ⊎ Contains edits.add r)

-- the records so far, and those of the leaves still to come that pass the test, are all of these
abbrev pub AreSoFar : (n layer : ℕ) → (Block × ℕ → Bool) → List Record → List (Block × ℕ) → List Record → Type 0
AreSoFar n layer p records rest all = records ++ map (leaf_record n layer) (filter p rest) ≡ all

-- Where each leaf that begins within the block, and not at its first code, passes the test, the records have gone on as the
-- leaves still to come have.
abbrev pub GoOnWithin : (n layer : ℕ) → Grid → Block → (old new : List Record) (before rest : List (Block × ℕ)) → Type 0
GoOnWithin n layer g b old new before rest =
    (p : Block × ℕ → Bool) (all : List Record)
    → ((e : Block × ℕ) → Contains (leaves n g) e → code_from b < code_from e.0 → code_from e.0 < code_to b → p e ≡ true)
    → AreSoFar n layer p old before all → AreSoFar n layer p new rest all
