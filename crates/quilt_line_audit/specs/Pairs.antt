-- The pairs of a line layer, block by block in the order of their codes.
use Rattle.std.specs.Prelude.{◌≡◌, ◌⊎◌, ℕ, List, [], ◌∷◌, ◌++◌, map, filter, Some, None}
use Rattle.quilt_types.specs.declared.plane.Block.{Block}
use Rattle.quilt_types.specs.declared.plane.Seg.{Seg}
use Rattle.quilt_types.specs.Plane.{quarters_of}
use Rattle.quilt_types.specs.Segments.{square, meets}
use Rattle.quilt_line_audit.specs.declared.pair.Pair.{Pair}

-- the block's pair of none
abbrev pub none_pair : Block → Pair
none_pair b = record { block = b; id = None }

-- its pair of a segment with an id
abbrev pub pair_on : Block → ℕ × Seg → Pair
pair_on b e = record { block = b; id = Some e.0 }

-- the pairs of a block that these segments meet: one for each, or that of none
abbrev pub block_pairs : Block → List (ℕ × Seg) → List Pair
block_pairs b [] = none_pair b ∷ []
block_pairs b (e ∷ es) = map (pair_on b) (e ∷ es)

-- those of the segments that meet the block
abbrev pub near : Block → List (ℕ × Seg) → List (ℕ × Seg)
near b segs = filter (λ e. meets e.1 (square b)) segs

-- the pairs of a block, where these are the segments of the layer
abbrev pub pairs_on : List (ℕ × Seg) → Block → List Pair
pairs_on segs b = block_pairs b (near b segs)

-- the list begins with what each square of a row begins with, one behind the other, and this is left of it
abbrev pub EachInTurn : (Block → List Pair → List Pair → Type 0) → List Block → List Pair → List Pair → Type 0
EachInTurn P [] pairs rest = pairs ≡ rest
EachInTurn P (b ∷ bs) pairs rest = (mid : List Pair) × P b pairs mid × EachInTurn P bs mid rest

-- The list begins with the pairs of a square of side 2 ^ k, which is one block or is cut into its quarters, and this is left of it.
abbrev pub BeginsWithPairs : List (ℕ × Seg) → ℕ → Block → List Pair → List Pair → Type 0
BeginsWithPairs segs ℕ.zero b pairs rest = pairs ≡ pairs_on segs b ++ rest
BeginsWithPairs segs (ℕ.suc k) b pairs rest = (pairs ≡ pairs_on segs b ++ rest) ⊎ EachInTurn (BeginsWithPairs segs k) (quarters_of b) pairs rest
