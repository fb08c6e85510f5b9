-- What a plan of a window reads of a layer, and what is known of it then.
use Rattle.std.specs.Prelude.{◌≡◌, ◌≢◌, ℕ, ◌+◌, ◌<◌, ◌≤◌, true, false, ◌&&◌, nat_le, nat_lt, List, map, filter, Contains, if◌then◌else◌}
use Rattle.quilt_types.specs.declared.plane.Pixel.{Pixel}
use Rattle.quilt_types.specs.declared.plane.Window.{Window}
use Rattle.quilt_types.specs.declared.plane.Block.{Block}
use Rattle.quilt_types.specs.Plane.{side, parent_of, in_block, Holds, IsBlock, Within}
use Rattle.quilt_types.specs.Layers.{Grid, colour_at}
use Rattle.quilt_types.specs.Quadtrees.{is_uniform, leaves}
use Rattle.quilt_loc.specs.Codes.{code_from, code_to}
use Rattle.quilt_record.specs.declared.record.Record.{Record}
use Rattle.quilt_blocks.specs.Cutting.{leaves_by_code}
use Rattle.quilt_region.specs.declared.known.Known.{Known}
use Rattle.quilt_spell.specs.OfLayer.{leaf_record}

-- all pixels of the window are the block's
pub record HoldsWindow (b : Block) (w : Window) : Type 0 where
  pub left : b.x ≤ w.x
  pub right : w.x + w.w ≤ b.x + b.side
  pub top : b.y ≤ w.y
  pub bottom : w.y + w.h ≤ b.y + b.side

-- the leaf of a grid that holds a pixel
pub record IsLeafWith (n : ℕ) (g : Grid) (p : Pixel) (e : Block × ℕ) : Type 0 where
  pub member : Contains (leaves n g) e
  pub holds : Holds e.0 p

-- The block does not lie inside of a larger one of one colour.
pub record IsCutOut (n : ℕ) (g : Grid) (b : Block) : Type 0 where
  pub several : b.side < side n → is_uniform n g (parent_of b) ≡ true → ⊥

-- the pixels of the larger block that are none of the other's have this colour
pub record HasAround (n : ℕ) (g : Grid) (larger b : Block) (c : ℕ) : Type 0 where
  pub each : (p : Pixel) → Holds larger p → in_block b p ≡ false → colour_at n g p ≡ c

-- the leaves that begin within a block, in the order of their codes
abbrev pub leaves_within : ℕ → Grid → Block → List (Block × ℕ)
leaves_within n g b = filter (λ e. nat_le (code_from b) (code_from e.0) && nat_lt (code_from e.0) (code_to b)) (leaves_by_code n g)

-- and their records
unfoldable pub records_within : ℕ → ℕ → Grid → Block → List Record
records_within n layer g b = map (leaf_record n layer) (leaves_within n g b)

-- the colour of a pixel in a layer of which this is known
abbrev pub known_colour : ℕ → Grid → Known → Pixel → ℕ
known_colour n g k p = if in_block k.read p then colour_at n g p else if in_block k.top p then k.around.0 else k.elsewhere.0

-- the blocks of what is known
pub record IsKnown (n : ℕ) (k : Known) : Type 0 where
  pub read : IsBlock n k.read
  pub top : IsBlock n k.top
  pub inside : Within k.read k.top

-- What is known tells the layer around a window: all of it in the block that was read, one colour up to the upper block,
-- beside which there is another colour, and a colour elsewhere that is neither of two.
pub record KnowsAround (n : ℕ) (g : Grid) (w : Window) (k : Known) : Type 0 where
  pub blocks : IsKnown n k
  pub holds : HoldsWindow k.read w
  pub read_cut : IsCutOut n g k.read
  pub top_cut : IsCutOut n g k.top
  pub around : HasAround n g k.top k.read k.around.0
  pub ends : k.top.side < side n → HasAround n g (parent_of k.top) k.top k.around.0 → ⊥
  pub other : k.elsewhere.0 ≢ k.around.0
  pub first : k.elsewhere.0 ≢ colour_at n g (record { x = w.x; y = w.y })
