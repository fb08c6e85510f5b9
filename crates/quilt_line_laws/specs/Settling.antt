-- One step of the descent of a removal, as a recursion in code takes it.
use Rattle.std.specs.Prelude.{◌≡◌, ℕ, Bool, true, false, List, [], ◌∷◌, flat_map, if◌then◌else◌}
use Rattle.quilt_types.specs.Sets as finset
use Rattle.quilt_types.specs.declared.plane.Block.{Block}
use Rattle.quilt_types.specs.declared.plane.Seg.{Seg}
use Rattle.quilt_types.specs.Plane.{quarters_of}
use Rattle.quilt_types.specs.Layers.{SegMap, BlockSet}
use Rattle.quilt_types.specs.Segments.{square, meets}
use Rattle.quilt_line_laws.specs.Merging.{is_one, becomes_one, coming_in, going_in, staying_in}
use Rattle.quilt_line_laws.specs.Counting.{gone_of_quarter}

-- what a call of the recursion answers for a block of side 2 ^ k
pub record IsBlockSettled (t : ℕ) (segs : SegMap) (cover : BlockSet) (s : Seg) (k : ℕ) (b : Block) (one : Bool) (coming going staying : List Block) : Type 0 where
  pub is_one : one ≡ is_one t segs cover s k b
  pub come : coming ≡ coming_in t segs cover s k b
  pub go : going ≡ going_in t segs cover s k b
  pub stay : staying ≡ staying_in t segs cover s k b

module _ (t : ℕ) (segs : SegMap) (cover : BlockSet) (s : Seg) (k : ℕ) (b : Block) where
  -- a block of the set
  abbrev pub LeafStep : Type 0
  LeafStep = finset.contains cover b ≡ true → IsBlockSettled t segs cover s k b true [] [] (if meets s (square b) then b ∷ [] else [])

  -- a block that the segment does not meet, and none of the set
  abbrev pub UnmetStep : Type 0
  UnmetStep = finset.contains cover b ≡ false → meets s (square b) ≡ false → IsBlockSettled t segs cover s k b false [] [] []

  -- four quarters that become one block
  abbrev pub MergeStep : Type 0
  MergeStep =
      finset.contains cover b ≡ false → becomes_one t segs cover s k b ≡ true
      → IsBlockSettled t segs cover s (ℕ.suc k) b true (b ∷ []) (flat_map (gone_of_quarter t segs cover s k) (quarters_of b)) []

  -- four quarters that do not
  abbrev pub CutStep : Type 0
  CutStep =
      finset.contains cover b ≡ false → meets s (square b) ≡ true → becomes_one t segs cover s k b ≡ false
      → IsBlockSettled t segs cover s (ℕ.suc k) b false (flat_map (coming_in t segs cover s k) (quarters_of b))
      (flat_map (going_in t segs cover s k) (quarters_of b)) (flat_map (staying_in t segs cover s k) (quarters_of b))

-- All four steps hold, for each block and each set.
abbrev pub SettleLaw : Type 0
SettleLaw =
    (t : ℕ) (segs : SegMap) (cover : BlockSet) (s : Seg) (k : ℕ) (b : Block)
    → LeafStep t segs cover s k b × UnmetStep t segs cover s k b × MergeStep t segs cover s k b × CutStep t segs cover s k b
