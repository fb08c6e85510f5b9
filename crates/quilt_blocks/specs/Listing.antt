-- What a list of leaves keeps, and one that is being made.
use Rattle.std.specs.Prelude.{◌≡◌, ℕ, ◌+◌, ◌*◌, ◌<◌, ◌≤◌, List, [], ◌∷◌, ◌++◌, map, All, Contains}
use Rattle.quilt_types.specs.declared.plane.Block.{Block}
use Rattle.quilt_types.specs.Plane.{quarters_of, IsBlock}
use Rattle.quilt_types.specs.Layers.{Grid}
use Rattle.quilt_loc.specs.Codes.{code_from}
use Rattle.quilt_blocks.specs.declared.leaf.Leaf.{Leaf}
use Rattle.quilt_blocks.specs.Cutting.{leaves_by_code, leaf_pair}
use Rattle.quilt_blocks.specs.Painting.{colours_of, grid_by_code}

-- the leaves as the definitions have them
abbrev pub leaf_pairs : List Leaf → List (Block × ℕ)
leaf_pairs leaves = map leaf_pair leaves

-- the grid that the blocks paint
abbrev pub grid_from : ℕ → List (Block × ℕ) → Grid
grid_from n es = grid_by_code n (colours_of es)

-- the leaves of one grid, in the order of their codes
pub record IsListed (n : ℕ) (es : List (Block × ℕ)) : Type 0 where
  pub least : 1 ≤ n
  pub most : n ≤ 12
  pub colours : All (λ e. e.1 < 65536) es
  pub ordered : es ≡ leaves_by_code n (grid_from n es)

-- blocks of which each begins at the code at which the one before it ended, the first at this code
abbrev pub Follows : ℕ → ℕ → List (Block × ℕ) → Type 0
Follows n at [] = Unit {0}
Follows n at (e ∷ es) = IsBlock n e.0 × (code_from e.0 ≡ at) × Follows n (at + e.0.side * e.0.side) es

-- no four quarters of a block have one colour
pub record IsUnmerged (n : ℕ) (es : List (Block × ℕ)) : Type 0 where
  pub four : (b : Block) (c : ℕ) → IsBlock n b → ((q : Block) → Contains (quarters_of b) q → Contains es (q, c)) → ⊥

-- blocks from the first code on, one after another, of which no four siblings have one colour
pub record IsMaking (n : ℕ) (es : List (Block × ℕ)) : Type 0 where
  pub least : 1 ≤ n
  pub most : n ≤ 12
  pub colours : All (λ e. e.1 < 65536) es
  pub follows : Follows n 0 es
  pub unmerged : IsUnmerged n es

-- the same but for the last block, which may be a fourth sibling of one colour
pub record IsGrowing (n : ℕ) (es : List (Block × ℕ)) : Type 0 where
  pub colours : All (λ e. e.1 < 65536) es
  pub follows : Follows n 0 es
  pub front : List (Block × ℕ)
  pub last : Block × ℕ
  pub split : es ≡ front ++ last ∷ []
  pub unmerged : IsUnmerged n front

-- the last four blocks are the quarters of a block and have its colour
pub record EndsInQuarters (n : ℕ) (es : List (Block × ℕ)) (whole : Block × ℕ) : Type 0 where
  pub block : IsBlock n whole.0
  pub wide : 1 < whole.0.side
  pub front : List (Block × ℕ)
  pub split : es ≡ front ++ map (λ q. (q, whole.1)) (quarters_of whole.0)
