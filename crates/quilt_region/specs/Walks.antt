-- A walk over the records of a region layer with a cursor.
use Rattle.std.specs.Prelude.{◌≡◌, ℕ, List, ◌++◌, map, Contains, Option}
use Rattle.quilt_types.specs.declared.plane.Block.{Block}
use Rattle.quilt_record.specs.declared.record.Record.{Record}
use Rattle.quilt_btree.specs.declared.tree.Tree.{Tree}
use Rattle.quilt_btree.specs.declared.cursor.Cursor.{Cursor}
use Rattle.quilt_btree.specs.Cursors.{StandsIn}
use Rattle.quilt_btree.specs.Trees.{IsTree}
use Rattle.quilt_spell.specs.OfLayer.{leaf_record}

-- the cursor stands between records of the tree
pub record StandsInTree (told : Option (List (List ℕ))) (t : Tree) (c : Cursor) : Type 0 where
  pub before : List Record
  pub after : List Record
  pub tree : IsTree told t (before ++ after)
  pub stands : StandsIn told t c before after

-- the cursor goes over the records of these leaves next, and no record behind them is of the layer
pub record IsAhead (told : Option (List (List ℕ))) (t : Tree) (c : Cursor) (layer n : ℕ) (rest : List (Block × ℕ)) : Type 0 where
  pub before : List Record
  pub after : List Record
  pub behind : List Record
  pub tree : IsTree told t (before ++ after)
  pub stands : StandsIn told t c before after
  pub are : after ≡ map (leaf_record n layer) rest ++ behind
  pub elsewhere : (r : Record) → Contains behind r → r.key.layer ≡ layer → ⊥
