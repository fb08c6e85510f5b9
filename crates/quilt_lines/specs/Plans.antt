-- The records that go and come when a segment comes to a line layer or goes from it.
use Rattle.std.specs.Prelude.{◌≡◌, ℕ, true, List, [], ◌∷◌, Some, None}
use Rattle.std.specs.FinMap as finmap
use Rattle.quilt_types.specs.Sets as finset
use Rattle.quilt_types.specs.Plane.{whole}
use Rattle.quilt_types.specs.Layers.{Lines, SegMap, BlockSet, IsLineMap}
use Rattle.quilt_types.specs.Facts.{IsOfKind}
use Rattle.quilt_record.specs.declared.edits.Edits.{Edits}
use Rattle.quilt_record.specs.declared.record.Record.{Record}
use Rattle.quilt_record.specs.Records.{record_of}
use Rattle.quilt_node.specs.Nodes.{keys_of}
use Rattle.quilt_node.specs.Pages.{is_ascending}
use Rattle.quilt_spell.specs.Changing.{LeadsTo}

-- Under any name of the layer the edits take out the records of the facts that the old segments and blocks alone have, and put in
-- those of the facts that the new ones alone have, each once. The new ones are those of a layer.
pub record IsLinePlan (n layer t : ℕ) (segs later : SegMap) (cover after : BlockSet) (edits : Edits) : Type 0 where
  pub valid : IsLineMap n t later after
  pub leads : (name : List ℕ) → LeadsTo n name layer (Some (Lines t segs cover)) (Some (Lines t later after)) edits.remove edits.add

-- the set of the whole square alone
abbrev pub one_block : ℕ → BlockSet
one_block n = finset.insert finset.empty (whole n)

-- The record, behind that of the catalog, makes a layer of no segments and of one block under any name, and the two ascend by
-- their keys.
pub record IsLineBeginning (n number t : ℕ) (r : Record) : Type 0 where
  pub leads : (name : List ℕ) (first : Record) → ((k c : ℕ) → first ≡ record_of k c name number (IsOfKind 3 t))
      → LeadsTo n name number None (Some (Lines t finmap.empty (one_block n))) [] (first ∷ r ∷ [])
  pub ascend : (name : List ℕ) (first : Record) → ((k c : ℕ) → first ≡ record_of k c name number (IsOfKind 3 t))
      → is_ascending (keys_of (first ∷ r ∷ [])) ≡ true
