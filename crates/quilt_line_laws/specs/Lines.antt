-- What a segment that comes to a line layer changes, block by block.
use Rattle.std.specs.Prelude.{◌≡◌, ◌↔◌, ℕ, ◌==◌, if◌then◌else◌, true, List, [], ◌∷◌, flat_map, Contains, Some, None}
use Rattle.std.specs.FinMap as finmap
use Rattle.quilt_types.specs.Sets as finset
use Rattle.quilt_types.specs.declared.plane.Block.{Block}
use Rattle.quilt_types.specs.declared.plane.Seg.{Seg}
use Rattle.quilt_types.specs.Plane.{quarters_of}
use Rattle.quilt_types.specs.Layers.{Layer, Lines, SegMap, BlockSet, IsLineMap}
use Rattle.quilt_types.specs.Segments.{square, meets}
use Rattle.quilt_types.specs.Quadtrees.{is_split, segs_meeting, after_add}
use Rattle.quilt_spell.specs.Apart.{Apart}
use Rattle.quilt_types.specs.Facts.{Fact, IsOfKind, HasColour, HoldsPoint, HoldsNoPoint, IsSegment, IsMetBy, IsMetByNone, line_facts, facts}

-- some segment under this id meets the block
abbrev pub IsMet : SegMap → Block → ℕ → Type 0
IsMet segs b id = (s : Seg) × (finmap.get segs id ≡ Some s) × (meets s (square b) ≡ true)

-- What a fact of a line layer says of it, by a look-up and a test of membership: exactly these are its facts.
abbrev pub IsLineFact : ℕ → SegMap → BlockSet → Fact → Type 0
IsLineFact t segs cover (IsOfKind kind number) = (kind ≡ 3) × (number ≡ t)
IsLineFact t segs cover (IsSegment id s) = finmap.get segs id ≡ Some s
IsLineFact t segs cover (IsMetBy b id) = Contains (finset.items cover) b × IsMet segs b id
IsLineFact t segs cover (IsMetByNone b) = Contains (finset.items cover) b × ((id : ℕ) → IsMet segs b id → ⊥)
IsLineFact t segs cover (HasColour b colour) = ⊥
IsLineFact t segs cover (HoldsPoint b p label) = ⊥
IsLineFact t segs cover (HoldsNoPoint b) = ⊥

-- the same for the facts on one block
abbrev pub IsOnBlock : SegMap → Block → Fact → Type 0
IsOnBlock segs b (IsMetBy c id) = (b ≡ c) × IsMet segs b id
IsOnBlock segs b (IsMetByNone c) = (b ≡ c) × ((id : ℕ) → IsMet segs b id → ⊥)
IsOnBlock segs b (IsOfKind kind number) = ⊥
IsOnBlock segs b (IsSegment id s) = ⊥
IsOnBlock segs b (HasColour c colour) = ⊥
IsOnBlock segs b (HoldsPoint c p label) = ⊥
IsOnBlock segs b (HoldsNoPoint c) = ⊥

-- The blocks of the set that the segment meets, in any order, each once.
pub record IsMetList (cover : BlockSet) (s : Seg) (met : List Block) : Type 0 where
  pub are : (b : Block) → Contains met b ↔ (Contains (finset.items cover) b × (meets s (square b) ≡ true))
  pub once : Apart met

-- the fact that nothing meets the block, where that is so
abbrev pub none_on : SegMap → Block → List Fact
none_on segs b = if segs_meeting segs b == 0 then IsMetByNone b ∷ [] else []

-- The segment s comes under id to segs, which does not have the id; now is segs with it.

-- the facts that come on a block that it meets
abbrev pub added_on : ℕ → SegMap → ℕ → Seg → Block → List Fact
added_on t now id s b = if is_split t now s b then flat_map (line_facts now) (quarters_of b) else IsMetBy b id ∷ []

-- and those that go
abbrev pub removed_on : ℕ → SegMap → SegMap → Seg → Block → List Fact
removed_on t segs now s b = if is_split t now s b then line_facts segs b else none_on segs b

-- all that come, from the blocks that the segment meets alone
abbrev pub facts_added : ℕ → SegMap → ℕ → Seg → List Block → List Fact
facts_added t segs id s met = let now = finmap.insert segs id s in IsSegment id s ∷ flat_map (added_on t now id s) met

-- all that go
abbrev pub facts_removed : ℕ → SegMap → ℕ → Seg → List Block → List Fact
facts_removed t segs id s met = let now = finmap.insert segs id s in flat_map (removed_on t segs now s) met

-- the layer with the segment
abbrev pub with_seg : ℕ → SegMap → BlockSet → ℕ → Seg → Layer
with_seg t segs cover id s = let now = finmap.insert segs id s in Lines t now (after_add t now cover s)

-- what a is and b is not
abbrev pub IsAlone : List Fact → List Fact → Fact → Type 0
IsAlone a b f = Contains a f × (Contains b f → ⊥)

-- The facts that the layer has after an addition alone, and those that it had before alone.
abbrev pub AddLaw : Type 0
AddLaw =
    (n t : ℕ) (segs : SegMap) (cover : BlockSet) (id : ℕ) (s : Seg) (met : List Block)
    → IsLineMap n t segs cover → finmap.get segs id ≡ None → IsMetList cover s met → (f : Fact)
    → (Contains (facts_added t segs id s met) f ↔ IsAlone (facts n (with_seg t segs cover id s)) (facts n (Lines t segs cover)) f)
    × (Contains (facts_removed t segs id s met) f ↔ IsAlone (facts n (Lines t segs cover)) (facts n (with_seg t segs cover id s)) f)
