-- The records of the facts that go and come are a plan of the edit.
use Rattle.std.specs.Prelude.{◌≡◌, ℕ, ◌^◌, ◌<◌, ◌≤◌, true, List, map, Some, None}
use Rattle.std.specs.FinMap as finmap
use Rattle.quilt_types.specs.declared.plane.Block.{Block}
use Rattle.quilt_types.specs.declared.plane.Seg.{Seg}
use Rattle.quilt_types.specs.Plane.{whole}
use Rattle.quilt_types.specs.Layers.{Lines, SegMap, BlockSet, IsLineMap, is_in_square}
use Rattle.quilt_types.specs.Facts.{Fact}
use Rattle.quilt_record.specs.declared.record.Record.{Record}
use Rattle.quilt_record.specs.Records.{record_of}
use Rattle.quilt_spell.specs.Changing.{LeadsTo}
use Rattle.quilt_line_laws.specs.Lines.{IsMetList, facts_added, facts_removed, with_seg}
use Rattle.quilt_line_laws.specs.Merging.{coming_in, going_in, staying_in}
use Rattle.quilt_line_laws.specs.Removing.{without_seg, facts_back, facts_gone}

-- the records of facts of the line layer with this number
abbrev pub line_records : ℕ → List ℕ → ℕ → List Fact → List Record
line_records n name number fs = map (record_of n 0 name number) fs

-- Adding a segment of the square under a free id: the records of the facts that go and come lead from the old layer to the new one, in which
-- each block that the segment overfills is cut once.
abbrev pub AddLeads : Type 0
AddLeads =
    (n t : ℕ) (name : List ℕ) (number : ℕ) (segs : SegMap) (cover : BlockSet) (id : ℕ) (s : Seg) (met : List Block)
    → n ≤ 12 → 1 ≤ number → IsLineMap n t segs cover → finmap.get segs id ≡ None
    → IsMetList cover s met → id < 2 ^ 32 → is_in_square n s ≡ true
    → LeadsTo n name number (Some (Lines t segs cover)) (Some (with_seg t segs cover id s))
    (line_records n name number (facts_removed t segs id s met)) (line_records n name number (facts_added t segs id s met))

-- Removing the segment of an id: the records of the facts that go and come lead from the old layer to the new one, in which quarters are merged.
abbrev pub RemoveLeads : Type 0
RemoveLeads =
    (n t : ℕ) (name : List ℕ) (number : ℕ) (segs : SegMap) (cover : BlockSet) (id : ℕ) (s : Seg)
    → n ≤ 12 → 1 ≤ number → IsLineMap n t segs cover → finmap.get segs id ≡ Some s →
    let now = finmap.remove segs id in
    let staying = staying_in t now cover s n (whole n) in
    LeadsTo n name number (Some (Lines t segs cover)) (Some (without_seg n t segs cover id s))
    (line_records n name number (facts_gone segs id s (going_in t now cover s n (whole n)) staying))
    (line_records n name number (facts_back segs id (coming_in t now cover s n (whole n)) staying))
