-- Which blocks a removal merges, by a descent from a block to its quarters.
use Rattle.std.specs.Prelude.{◌≡◌, ◌↔◌, ℕ, ◌<◌, Bool, true, false, ◌&&◌, ◌||◌, nat_le, List, [], ◌∷◌, flat_map, if◌then◌else◌, Contains, not}
use Rattle.std.specs.List.{list_all}
use Rattle.quilt_types.specs.Sets as finset
use Rattle.quilt_types.specs.declared.plane.Block.{Block}
use Rattle.quilt_types.specs.declared.plane.Seg.{Seg}
use Rattle.quilt_types.specs.Plane.{side, quarters_of, parent_of, whole, IsBlock}
use Rattle.quilt_types.specs.Layers.{SegMap, BlockSet, IsLineMap}
use Rattle.quilt_types.specs.Segments.{square, meets}
use Rattle.quilt_types.specs.Quadtrees.{segs_meeting, after_remove}
use Rattle.quilt_spell.specs.Apart.{Apart}
use Rattle.quilt_line_laws.specs.Lines.{IsMetList}

-- The segment s is gone from segs already. A block of side 2 ^ k is one block where it is one of the set, or where s meets
-- it, its four quarters are one block each, and at most t segments meet it.
abbrev pub is_one : ℕ → SegMap → BlockSet → Seg → ℕ → Block → Bool
is_one t segs cover s ℕ.zero b = finset.contains cover b
is_one t segs cover s (ℕ.suc k) b =
    finset.contains cover b
    || (meets s (square b) && list_all (is_one t segs cover s k) (quarters_of b) && nat_le (segs_meeting segs b) t)

-- the block becomes one and was not: its quarters are of side 2 ^ k
abbrev pub becomes_one : ℕ → SegMap → BlockSet → Seg → ℕ → Block → Bool
becomes_one t segs cover s k b =
    meets s (square b) && list_all (is_one t segs cover s k) (quarters_of b) && nat_le (segs_meeting segs b) t

-- the blocks of the set in a block of side 2 ^ k of which some of the set's make up the whole
abbrev pub blocks_in : BlockSet → ℕ → Block → List Block
blocks_in cover ℕ.zero b = b ∷ []
blocks_in cover (ℕ.suc k) b = if finset.contains cover b then b ∷ [] else flat_map (blocks_in cover k) (quarters_of b)

-- the blocks that come, in a block of side 2 ^ k that lies in none that is one
abbrev pub coming_in : ℕ → SegMap → BlockSet → Seg → ℕ → Block → List Block
coming_in t segs cover s ℕ.zero b = []
coming_in t segs cover s (ℕ.suc k) b =
    if finset.contains cover b || not (meets s (square b)) then []
    else if becomes_one t segs cover s k b then b ∷ [] else flat_map (coming_in t segs cover s k) (quarters_of b)

-- and those that go
abbrev pub going_in : ℕ → SegMap → BlockSet → Seg → ℕ → Block → List Block
going_in t segs cover s ℕ.zero b = []
going_in t segs cover s (ℕ.suc k) b =
    if finset.contains cover b || not (meets s (square b)) then []
    else if becomes_one t segs cover s k b then flat_map (blocks_in cover k) (quarters_of b)
    else flat_map (going_in t segs cover s k) (quarters_of b)

-- and those that stay and that the segment met
abbrev pub staying_in : ℕ → SegMap → BlockSet → Seg → ℕ → Block → List Block
staying_in t segs cover s ℕ.zero b = if finset.contains cover b && meets s (square b) then b ∷ [] else []
staying_in t segs cover s (ℕ.suc k) b =
    if not (meets s (square b)) then []
    else if finset.contains cover b then b ∷ []
    else if becomes_one t segs cover s k b then [] else flat_map (staying_in t segs cover s k) (quarters_of b)

-- The blocks of the set that the segment meets, by a descent to the blocks that it meets alone.
abbrev pub met_in : BlockSet → Seg → ℕ → Block → List Block
met_in cover s ℕ.zero b = if finset.contains cover b && meets s (square b) then b ∷ [] else []
met_in cover s (ℕ.suc k) b =
    if not (meets s (square b)) then [] else if finset.contains cover b then b ∷ [] else flat_map (met_in cover s k) (quarters_of b)

-- In a layer of segments the descent from the whole square finds the blocks that the segment meets, all of them and each once.
abbrev pub VisitLaw : Type 0
VisitLaw = (n t : ℕ) (segs : SegMap) (cover : BlockSet) (s : Seg) → IsLineMap n t segs cover → IsMetList cover s (met_in cover s n (whole n))

-- The blocks that come, that go, and that stay and meet the segment, between two sets.
pub record IsChange (was later : BlockSet) (s : Seg) (coming going staying : List Block) : Type 0 where
  pub come : (b : Block) → Contains coming b ↔ (Contains (finset.items later) b × (Contains (finset.items was) b → ⊥))
  pub go : (b : Block) → Contains going b ↔ (Contains (finset.items was) b × (Contains (finset.items later) b → ⊥))
  pub stay : (b : Block) → Contains staying b ↔ (Contains (finset.items was) b × Contains (finset.items later) b × (meets s (square b) ≡ true))

-- The blocks after a removal: those that are one, of which no greater one is.
abbrev pub MergeLaw : ℕ → ℕ → SegMap → BlockSet → Seg → Type 0
MergeLaw n t segs cover s =
    (k : ℕ) (b : Block) → IsBlock n b → b.side ≡ side k
    → Contains (finset.items (after_remove n t segs cover s)) b
    ↔ ((is_one t segs cover s k b ≡ true) × (k < n → is_one t segs cover s (ℕ.suc k) (parent_of b) ≡ true → ⊥))

-- The blocks of each line layer are so after a removal, by whatever segments are counted.
abbrev pub MergesLaw : Type 0
MergesLaw = (n t : ℕ) (known segs : SegMap) (cover : BlockSet) (s : Seg) → IsLineMap n t known cover → MergeLaw n t segs cover s

-- The descent finds the blocks that come, those that go, and those that stay and that the segment met, each once.
abbrev pub DescentLaw : Type 0
DescentLaw =
    (n t : ℕ) (known segs : SegMap) (cover : BlockSet) (s : Seg) → IsLineMap n t known cover →
    let later = after_remove n t segs cover s in
    let coming = coming_in t segs cover s n (whole n) in
    let going = going_in t segs cover s n (whole n) in
    let staying = staying_in t segs cover s n (whole n) in
    IsChange cover later s coming going staying × Apart coming × Apart going × Apart staying

-- Of a block that the segment does not meet only this counts, whether it is one of the set.
abbrev pub UnmetLaw : Type 0
UnmetLaw =
    (n t : ℕ) (known segs : SegMap) (cover : BlockSet) (s : Seg) (k : ℕ) (b : Block) → IsLineMap n t known cover → meets s (square b) ≡ false
    → is_one t segs cover s k b ≡ true → Contains (finset.items cover) b
