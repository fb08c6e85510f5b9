-- What a segment that goes from a line layer changes, block by block.
use Rattle.std.specs.Prelude.{◌≡◌, ◌↔◌, ℕ, List, ◌∷◌, ◌++◌, map, flat_map, Contains, Some}
use Rattle.std.specs.FinMap as finmap
use Rattle.quilt_types.specs.declared.plane.Block.{Block}
use Rattle.quilt_types.specs.declared.plane.Seg.{Seg}
use Rattle.quilt_types.specs.Plane.{whole}
use Rattle.quilt_types.specs.Layers.{Layer, Lines, SegMap, BlockSet, IsLineMap}
use Rattle.quilt_types.specs.Quadtrees.{after_remove}
use Rattle.quilt_types.specs.Facts.{Fact, IsSegment, IsMetBy, line_facts, facts}
use Rattle.quilt_line_laws.specs.Lines.{none_on, IsAlone}
use Rattle.quilt_line_laws.specs.Merging.{coming_in, going_in, staying_in}

-- the layer without the segment s, which stood under id
abbrev pub without_seg : ℕ → ℕ → SegMap → BlockSet → ℕ → Seg → Layer
without_seg n t segs cover id s = let now = finmap.remove segs id in Lines t now (after_remove n t now cover s)

-- the facts that come, on the blocks that come and on those that nothing meets any more
abbrev pub facts_back : SegMap → ℕ → List Block → List Block → List Fact
facts_back segs id coming staying =
    let now = finmap.remove segs id in flat_map (line_facts now) coming ++ flat_map (none_on now) staying

-- the facts that go: the segment's, those on the blocks that go, and that it met the blocks that stay
abbrev pub facts_gone : SegMap → ℕ → Seg → List Block → List Block → List Fact
facts_gone segs id s going staying =
    IsSegment id s ∷ flat_map (line_facts segs) going ++ map (λ b. IsMetBy b id) staying

-- The facts that the layer has after a removal alone, and those that it had before alone, by the descent from the whole square.
abbrev pub RemoveLaw : Type 0
RemoveLaw =
    (n t : ℕ) (segs : SegMap) (cover : BlockSet) (id : ℕ) (s : Seg) → IsLineMap n t segs cover → finmap.get segs id ≡ Some s → (f : Fact) →
    let now = finmap.remove segs id in
    let coming = coming_in t now cover s n (whole n) in
    let going = going_in t now cover s n (whole n) in
    let staying = staying_in t now cover s n (whole n) in
    (Contains (facts_back segs id coming staying) f ↔ IsAlone (facts n (without_seg n t segs cover id s)) (facts n (Lines t segs cover)) f)
    × (Contains (facts_gone segs id s going staying) f ↔ IsAlone (facts n (Lines t segs cover)) (facts n (without_seg n t segs cover id s)) f)
