-- Where a question on a line layer has looked in the tree.
use Rattle.std.specs.Prelude.{ℕ, List, Option}
use Rattle.quilt_btree.specs.declared.tree.Tree.{Tree}
use Rattle.quilt_btree.specs.Spots.{IsLeafFrom}
use Rattle.quilt_near.specs.declared.known.Mark.{Mark}

-- the mark's page is the leaf of the tree for its keys
abbrev pub IsMark : Option (List (List ℕ)) → Tree → Mark → Type 0
IsMark told t m = IsLeafFrom told t m.page m.low m.high
