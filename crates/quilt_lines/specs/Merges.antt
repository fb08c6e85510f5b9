-- What becomes of blocks when a segment goes from a line layer, as records.
use Rattle.std.specs.Prelude.{◌≡◌, ◌⊎◌, ℕ, ◌≤◌, ◌<◌, ◌&&◌, true, List, [], ◌∷◌, ◌++◌, length, map, flat_map, Contains, IsPermutation}
use Rattle.std.specs.List.{list_all}
use Rattle.std.specs.List.Sorted.{IsSorted}
use Rattle.std.specs.Ordering.{nat_cmp}
use Rattle.std.specs.FinMap as finmap
use Rattle.quilt_types.specs.declared.plane.Block.{Block}
use Rattle.quilt_types.specs.declared.plane.Seg.{Seg}
use Rattle.quilt_types.specs.Layers.{SegMap, BlockSet}
use Rattle.quilt_types.specs.Facts.{Fact, IsMetBy, IsMetByNone, or_none, line_facts}
use Rattle.quilt_types.specs.Quadtrees.{after_remove}
use Rattle.quilt_record.specs.declared.edits.Edits.{Edits}
use Rattle.quilt_record.specs.declared.record.Record.{Record}
use Rattle.quilt_near.specs.Lines.{meeting}
use Rattle.quilt_spell.specs.Apart.{Apart}
use Rattle.quilt_line_laws.specs.Lines.{IsMet, none_on}
use Rattle.quilt_line_laws.specs.Merging.{is_one, coming_in, going_in, staying_in}
use Rattle.quilt_line_laws.specs.Counting.{gone_of_quarter}
use Rattle.quilt_lines.specs.declared.removal.Removal.{Removal}
use Rattle.quilt_lines.specs.declared.merge.Settled.{Settled}
use Rattle.quilt_lines.specs.Layers.{fact_record}
use Rattle.quilt_lines.specs.Reads.{ids_of}
use Rattle.quilt_lines.specs.Plans.{IsLinePlan}

-- the records of the facts on each of these blocks
abbrev pub records_on : ℕ → ℕ → (Block → List Fact) → List Block → List Record
records_on n layer facts bs = map (fact_record n layer) (flat_map facts bs)

-- the facts on a block that these ids meet
abbrev pub pair_facts : Block → List ℕ → List Fact
pair_facts b ids = or_none (IsMetByNone b) (map (IsMetBy b) ids)

-- the fact that the segment of this id meets the block
abbrev pub met_by : ℕ → Block → List Fact
met_by id b = IsMetBy b id ∷ []

-- ids come to others, each once: all of them, or so many that there are more than this
pub record AddsIds (most : ℕ) (old more new : List ℕ) : Type 0 where
  pub once : Apart old → Apart new
  pub kept : (i : ℕ) → Contains old i → Contains new i
  pub from : (i : ℕ) → Contains new i → Contains old i ⊎ Contains more i
  pub grows : length old ≤ length new
  pub all : length new ≤ most → (i : ℕ) → Contains more i → Contains new i

-- The segment s goes, which stands under the id. This becomes of a block of side 2 ^ k: whether it is one block, and then the
-- ids that meet it and the records of the blocks that it was made of, and the records on the blocks that come, go and stay.
pub record SettlesBlock (n layer t id : ℕ) (segs : SegMap) (cover : BlockSet) (s : Seg) (k : ℕ) (b : Block) (x : Settled) : Type 0 where
  pub one : x.one ≡ is_one t (finmap.remove segs id) cover s k b
  pub ids : x.one ≡ true → x.ids.items ≡ ids_of (meeting (finmap.remove segs id) b)
  pub parts : x.one ≡ true → x.parts.items ≡ records_on n layer (line_facts segs) (gone_of_quarter t (finmap.remove segs id) cover s k b)
  pub coming : x.coming.items ≡ records_on n layer (line_facts (finmap.remove segs id)) (coming_in t (finmap.remove segs id) cover s k b)
  pub going : x.going.items ≡ records_on n layer (line_facts segs) (going_in t (finmap.remove segs id) cover s k b)
  pub staying : x.staying.items ≡ records_on n layer (met_by id) (staying_in t (finmap.remove segs id) cover s k b)
  pub emptied : x.emptied.items ≡ records_on n layer (none_on (finmap.remove segs id)) (staying_in t (finmap.remove segs id) cover s k b)

-- this becomes of a block of side 2 ^ k when the segment of a removal goes
abbrev pub BecomesSettled : Removal → SegMap → BlockSet → ℕ → Block → Settled → Type 0
BecomesSettled r segs cover k b x = SettlesBlock r.level r.layer r.threshold r.id segs cover r.segment k b x

-- The same of several blocks together, with the ids that meet one of them: all of them, or more than the threshold.
pub record Gathers (n layer t id : ℕ) (segs : SegMap) (cover : BlockSet) (s : Seg) (k : ℕ) (bs : List Block) (x : Settled) : Type 0 where
  pub one : x.one ≡ list_all (is_one t (finmap.remove segs id) cover s k) bs
  pub once : Apart x.ids.items
  pub from : x.one ≡ true → (i : ℕ) → Contains x.ids.items i → (b : Block) × Contains bs b × IsMet (finmap.remove segs id) b i
  pub all : x.one ≡ true → length x.ids.items ≤ t → (b : Block) → Contains bs b → (i : ℕ) → IsMet (finmap.remove segs id) b i → Contains x.ids.items i
  pub parts : x.one ≡ true → x.parts.items ≡ records_on n layer (line_facts segs) (flat_map (gone_of_quarter t (finmap.remove segs id) cover s k) bs)
  pub coming : x.coming.items ≡ records_on n layer (line_facts (finmap.remove segs id)) (flat_map (coming_in t (finmap.remove segs id) cover s k) bs)
  pub going : x.going.items ≡ records_on n layer (line_facts segs) (flat_map (going_in t (finmap.remove segs id) cover s k) bs)
  pub staying : x.staying.items ≡ records_on n layer (met_by id) (flat_map (staying_in t (finmap.remove segs id) cover s k) bs)
  pub emptied : x.emptied.items ≡ records_on n layer (none_on (finmap.remove segs id)) (flat_map (staying_in t (finmap.remove segs id) cover s k) bs)

-- A block that these ids meet comes for blocks that these are the records of: its ids are in order.
pub record IsMerged (n layer : ℕ) (b : Block) (ids : List ℕ) (old : List Record) (x : Settled) : Type 0 where
  pub one : x.one ≡ true
  pub permutation : IsPermutation ids x.ids.items
  pub sorted : IsSorted nat_cmp x.ids.items
  pub parts : x.parts.items ≡ old
  pub coming : x.coming.items ≡ map (fact_record n layer) (pair_facts b x.ids.items)
  pub going : x.going.items ≡ old
  pub staying : x.staying.items ≡ []
  pub emptied : x.emptied.items ≡ []

-- what becomes of one block more is added
pub record IsGathered (most : ℕ) (old more new : Settled) : Type 0 where
  pub one : new.one ≡ (old.one && more.one)
  pub ids : AddsIds most old.ids.items more.ids.items new.ids.items
  pub parts : new.parts.items ≡ old.parts.items ++ more.parts.items
  pub coming : new.coming.items ≡ old.coming.items ++ more.coming.items
  pub going : new.going.items ≡ old.going.items ++ more.going.items
  pub staying : new.staying.items ≡ old.staying.items ++ more.staying.items
  pub emptied : new.emptied.items ≡ old.emptied.items ++ more.emptied.items

-- The edits are a plan of the layer without the segment of a removal, and fewer records come than go.
pub record IsRemovalPlan (r : Removal) (segs : SegMap) (cover : BlockSet) (edits : Edits) : Type 0 where
  pub plan : IsLinePlan r.level r.layer r.threshold segs (finmap.remove segs r.id) cover
      (after_remove r.level r.threshold (finmap.remove segs r.id) cover r.segment) edits
  pub fewer : length edits.add < length edits.remove
