-- The records that go and come when a segment comes to a line layer, block by block.
use Rattle.std.specs.Prelude.{◌≡◌, ℕ, ◌==◌, List, [], ◌∷◌, ◌++◌, length, map, filter, flat_map, if◌then◌else◌}
use Rattle.std.specs.FinMap as finmap
use Rattle.std.specs.List.Sorted.{IsPermutation}
use Rattle.quilt_types.specs.declared.plane.Block.{Block}
use Rattle.quilt_types.specs.declared.plane.Seg.{Seg}
use Rattle.quilt_types.specs.Plane.{quarters_of}
use Rattle.quilt_types.specs.Layers.{SegMap}
use Rattle.quilt_types.specs.Segments.{square, meets}
use Rattle.quilt_types.specs.Facts.{Fact, IsMetBy, IsMetByNone, or_none}
use Rattle.quilt_record.specs.declared.record.Record.{Record}
use Rattle.quilt_line_laws.specs.Lines.{added_on, removed_on}
use Rattle.quilt_lines.specs.Layers.{fact_record}

-- the facts on a block that the segments with these ids meet, and no others
abbrev pub facts_by : Block → List ℕ → List Fact
facts_by b ids = or_none (IsMetByNone b) (map (λ id. IsMetBy b id) ids)

-- the ids of those of the segments that meet the block
abbrev pub ids_meeting : List (ℕ × Seg) → Block → List ℕ
ids_meeting list b = map (λ e. e.0) (filter (λ e. meets e.1 (square b)) list)

-- the facts on the quarters of a block that these segments meet, and no others
abbrev pub quarter_facts : List (ℕ × Seg) → Block → List Fact
quarter_facts list b = flat_map (λ q. facts_by q (ids_meeting list q)) (quarters_of b)

-- the fact that nothing meets the block, where these ids are none
abbrev pub none_by : Block → List ℕ → List Fact
none_by b ids = if length ids == 0 then IsMetByNone b ∷ [] else []

-- the records of facts of the layer, behind others
abbrev pub Follow : ℕ → ℕ → List Record → List Record → List Fact → Type 0
Follow n layer old new fs = new ≡ old ++ map (fact_record n layer) fs

-- The segment s comes under id to segs, which does not have the id. The records of the facts on these blocks that go, and of
-- those that come, stand behind others.
pub record IsAdded (n layer t : ℕ) (segs : SegMap) (id : ℕ) (s : Seg) (met : List Block) (gone all_gone come all_come : List Record) : Type 0 where
  pub goes : Follow n layer gone all_gone (flat_map (removed_on t segs (finmap.insert segs id s) s) met)
  pub comes : IsPermutation (come ++ map (fact_record n layer) (flat_map (added_on t (finmap.insert segs id s) id s) met)) all_come
