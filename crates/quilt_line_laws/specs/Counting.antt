-- What a planner of a removal counts, and that a removal leaves fewer facts.
use Rattle.std.specs.Prelude.{◌≡◌, ◌↔◌, ℕ, ◌<◌, true, List, [], ◌∷◌, length, flat_map, if◌then◌else◌, Contains, Some}
use Rattle.std.specs.FinMap as finmap
use Rattle.quilt_types.specs.Sets as finset
use Rattle.quilt_types.specs.declared.plane.Block.{Block}
use Rattle.quilt_types.specs.declared.plane.Seg.{Seg}
use Rattle.quilt_types.specs.Plane.{side, quarters_of, whole, IsBlock}
use Rattle.quilt_types.specs.Layers.{SegMap, BlockSet, IsLineMap}
use Rattle.quilt_types.specs.Quadtrees.{segs_meeting}
use Rattle.quilt_spell.specs.Apart.{Apart}
use Rattle.quilt_line_laws.specs.Lines.{IsMet}
use Rattle.quilt_line_laws.specs.Merging.{is_one, becomes_one, blocks_in, coming_in, going_in, staying_in}
use Rattle.quilt_line_laws.specs.Removing.{facts_back, facts_gone}

-- A list of the ids that meet a block, each once, is as long as the count says.
abbrev pub SegmentCountLaw : Type 0
SegmentCountLaw = (segs : SegMap) (b : Block) (ids : List ℕ) → Apart ids → ((id : ℕ) → Contains ids id ↔ IsMet segs b id) → length ids ≡ segs_meeting segs b

-- The segments of a block that is one are those of the blocks of the set in it.
abbrev pub ThroughLaw : Type 0
ThroughLaw =
    (n t : ℕ) (known segs : SegMap) (cover : BlockSet) (s : Seg) (k : ℕ) (b : Block) (others : SegMap) (id : ℕ)
    → IsLineMap n t known cover → IsBlock n b → b.side ≡ side k
    → is_one t segs cover s k b ≡ true → IsMet others b id ↔ ((c : Block) × Contains (blocks_in cover k b) c × IsMet others c id)

-- What goes where four quarters merge: those that are blocks of the set, and what goes in those that became one themselves.
abbrev pub gone_of_quarter : ℕ → SegMap → BlockSet → Seg → ℕ → Block → List Block
gone_of_quarter t segs cover s k q = if finset.contains cover q then q ∷ [] else going_in t segs cover s k q

-- Where a block becomes one, the blocks of the set in its quarters are those that go in the quarters, in the same order.
abbrev pub MergedLaw : Type 0
MergedLaw =
    (t : ℕ) (segs : SegMap) (cover : BlockSet) (s : Seg) (k : ℕ) (b : Block) → becomes_one t segs cover s k b ≡ true
    → flat_map (blocks_in cover k) (quarters_of b) ≡ flat_map (gone_of_quarter t segs cover s k) (quarters_of b)

-- A removal leaves fewer facts than there were.
abbrev pub FewerLaw : Type 0
FewerLaw =
    (n t : ℕ) (segs : SegMap) (cover : BlockSet) (id : ℕ) (s : Seg) → IsLineMap n t segs cover → finmap.get segs id ≡ Some s →
    let now = finmap.remove segs id in
    let staying = staying_in t now cover s n (whole n) in
    length (facts_back segs id (coming_in t now cover s n (whole n)) staying) < length (facts_gone segs id s (going_in t now cover s n (whole n)) staying)
