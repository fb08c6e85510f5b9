-- Where a search for the blocks of a point layer stands.
use Rattle.std.specs.Prelude.{ℕ, List, Option, IfSome}
use Rattle.quilt_types.specs.declared.plane.Block.{Block}
use Rattle.quilt_types.specs.declared.plane.Point.{Point}
use Rattle.quilt_types.specs.Plane.{IsBlock}
use Rattle.quilt_types.specs.Layers.{PointMap}
use Rattle.quilt_record.specs.declared.record.Record.{Record}
use Rattle.quilt_btree.specs.declared.tree.Tree.{Tree}
use Rattle.quilt_btree.specs.Fingers.{IsFinger}
use Rattle.quilt_btree.specs.Spots.{IsSpotIf}
use Rattle.quilt_btree.specs.Trees.{IsTree}
use Rattle.quilt_points.specs.declared.search.Search.{Search}
use Rattle.quilt_points.specs.Layers.{HasPoints}
use Rattle.quilt_points.specs.Reads.{IsBlockRead}
use Rattle.quilt_points.specs.Windows.{HasRow}

-- a record of the tree says the block and the point, which are those of the layer where the tree has it
pub record IsSeen (told : Option (List (List ℕ))) (t : Tree) (n capacity number : ℕ) (b : Block) (held : Option Point) : Type 0 where
  pub block : IsBlock n b
  pub row : (rs : List Record) → IsTree told t rs → HasRow n capacity number rs b
  pub read : (points : PointMap) → HasPoints told t number n capacity points → IsBlockRead n capacity points b held

-- the finger and the spot are in the tree, and the block that was found last is one that was seen
pub record IsSearch (told : Option (List (List ℕ))) (t : Tree) (n capacity number : ℕ) (search : Search) : Type 0 where
  pub finger : IsFinger told t search.finger
  pub spot : IsSpotIf told t search.spot
  pub last : IfSome search.last (λ v. IsSeen told t n capacity number v.0 v.1)
