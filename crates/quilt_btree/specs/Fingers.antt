-- The finger of a search: the leaf that it came to before.
use Rattle.std.specs.Prelude.{◌≡◌, ℕ, true, List, ◌++◌, Option, Some, IfSome}
use Rattle.std.specs.List.{list_all}
use Rattle.quilt_record.specs.declared.key.Key.{Key}
use Rattle.quilt_record.specs.declared.record.Record.{Record}
use Rattle.quilt_node.specs.Pages.{leaf_of}
use Rattle.quilt_btree.specs.declared.tree.Tree.{Tree}
use Rattle.quilt_btree.specs.declared.finger.Finger.{Finger}
use Rattle.quilt_btree.specs.Trees.{IsTree, is_past}

-- the bytes are a leaf, whose records stand among these, and those behind it are from the bound on
pub record IsLeafOf (bytes : List ℕ) (high : Option Key) (rs : List Record) : Type 0 where
  pub own : List Record
  pub is_leaf : leaf_of bytes ≡ Some own
  pub before : List Record
  pub behind : List Record
  pub records : rs ≡ before ++ (own ++ behind)
  pub bounded : list_all (λ r. is_past high r.key) behind ≡ true

-- the finger, if there is one, is at a leaf of the tree
abbrev pub IsFinger : Option (List (List ℕ)) → Tree → Option Finger → Type 0
IsFinger told t finger = (rs : List Record) → IsTree told t rs → IfSome finger (λ f. IsLeafOf f.bytes f.high rs)
