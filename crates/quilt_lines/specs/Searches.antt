-- Where a search for the blocks of a line layer stands.
use Rattle.std.specs.Prelude.{◌≡◌, ℕ, Bool, ◌&&◌, true, List, Option, IfSome}
use Rattle.std.specs.Ordering.{is_le, is_lt}
use Rattle.quilt_types.specs.declared.plane.Block.{Block}
use Rattle.quilt_types.specs.declared.plane.Pixel.{Pixel}
use Rattle.quilt_types.specs.Plane.{in_block}
use Rattle.quilt_record.specs.declared.key.Key.{Key}
use Rattle.quilt_record.specs.declared.record.Record.{Record}
use Rattle.quilt_record.specs.Records.{key_cmp}
use Rattle.quilt_btree.specs.declared.tree.Tree.{Tree}
use Rattle.quilt_btree.specs.Lists.{floor_of}
use Rattle.quilt_btree.specs.Spots.{IsSpotIf}
use Rattle.quilt_btree.specs.Trees.{IsTree}
use Rattle.quilt_lines.specs.declared.search.Search.{Search}
use Rattle.quilt_lines.specs.Said.{last_block_key}

-- the block of one pixel
abbrev pub one_pixel : Pixel → Block
one_pixel p = record { x = p.x; y = p.y; side = 1 }

-- the last key that a record of a block can have that begins at the pixel
abbrev pub last_pixel_key : ℕ → ℕ → Pixel → Key
last_pixel_key n layer p = last_block_key n layer (one_pixel p)

-- the record is the last one whose key is at most the pixel's
abbrev pub IsLastAt : Option (List (List ℕ)) → Tree → ℕ → ℕ → Pixel → Option Record → Type 0
IsLastAt told t n layer p o = (rs : List Record) → IsTree told t rs → o ≡ floor_of (last_pixel_key n layer p) rs

-- it is that of a pixel of the block
pub record IsLastIn (told : Option (List (List ℕ))) (t : Tree) (n layer : ℕ) (b : Block) (o : Option Record) : Type 0 where
  pub at : Pixel
  pub holds : in_block b at ≡ true
  pub last : IsLastAt told t n layer at o

-- the spot is in the tree, and what was found is the last record at the pixel
pub record IsLineSearch (told : Option (List (List ℕ))) (t : Tree) (n layer : ℕ) (s : Search) : Type 0 where
  pub spot : IsSpotIf told t s.spot
  pub home : IfSome s.home (λ l. IsLastAt told t n layer s.at l.last)

-- the record's key is from the one on and below the other
abbrev pub is_before : Key → Key → Record → Bool
is_before low k r = is_le (key_cmp low r.key) && is_lt (key_cmp r.key k)
