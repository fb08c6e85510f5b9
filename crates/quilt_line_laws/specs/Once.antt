-- The lists of facts that an edit gives have no fact twice.
use Rattle.std.specs.Prelude.{◌≡◌, ℕ, List, Some, None}
use Rattle.std.specs.FinMap as finmap
use Rattle.quilt_types.specs.declared.plane.Block.{Block}
use Rattle.quilt_types.specs.declared.plane.Seg.{Seg}
use Rattle.quilt_types.specs.Plane.{whole}
use Rattle.quilt_types.specs.Layers.{SegMap, BlockSet, IsLineMap}
use Rattle.quilt_spell.specs.Apart.{Apart}
use Rattle.quilt_line_laws.specs.Lines.{IsMetList, facts_added, facts_removed}
use Rattle.quilt_line_laws.specs.Merging.{coming_in, going_in, staying_in}
use Rattle.quilt_line_laws.specs.Removing.{facts_back, facts_gone}

-- Neither the facts that come nor those that go have one twice, where a segment is added under a free id.
abbrev pub AddOnceLaw : Type 0
AddOnceLaw =
    (n t : ℕ) (segs : SegMap) (cover : BlockSet) (id : ℕ) (s : Seg) (met : List Block)
    → IsLineMap n t segs cover → finmap.get segs id ≡ None → IsMetList cover s met
    → Apart (facts_added t segs id s met) × Apart (facts_removed t segs id s met)

-- Neither the facts that come nor those that go have one twice, where the segment of an id is removed.
abbrev pub RemoveOnceLaw : Type 0
RemoveOnceLaw =
    (n t : ℕ) (segs : SegMap) (cover : BlockSet) (id : ℕ) (s : Seg) → IsLineMap n t segs cover → finmap.get segs id ≡ Some s →
    let now = finmap.remove segs id in
    let staying = staying_in t now cover s n (whole n) in
    Apart (facts_back segs id (coming_in t now cover s n (whole n)) staying) × Apart (facts_gone segs id s (going_in t now cover s n (whole n)) staying)
