-- What a search tells of the leaf that it came to.
use Rattle.std.specs.Prelude.{◌≡◌, ℕ, ◌<◌, ◌≤◌, true, IfOk, List, Option, Result, Some, length}
use Rattle.quilt_record.specs.declared.key.Key.{Key}
use Rattle.quilt_record.specs.declared.record.Record.{Record}
use Rattle.quilt_node.specs.Pages.{leaf_of}
use Rattle.quilt_node.specs.Nodes.{page_records}
use Rattle.quilt_node.specs.Tree.{is_below}
use Rattle.quilt_types.specs.declared.stop.Stop.{Stop}
use Rattle.quilt_btree.specs.declared.step.Found.{Found}
use Rattle.quilt_btree.specs.Trees.{SpellsSubtree, LeadsToLeaf, IsCut}

-- The bytes are the leaf to which a key leads in the subtree at a page, whose keys stay below the bound at the start. The leaf's own keys stay below `high`.
pub record Arrives (told : Option (List (List ℕ))) (page height : ℕ) (k : Key) (start : Option Key) (bytes : List ℕ) (high : Option Key) : Type 0 where
  pub leaf : (rs : List Record) → SpellsSubtree told page height rs → leaf_of bytes ≡ Some (page_records bytes)
  pub least : (rs : List Record) → SpellsSubtree told page height rs → 1 ≤ length (page_records bytes)
  pub leads : (rs : List Record) (s : SpellsSubtree told page height rs) → s.bounds.high ≡ start → LeadsToLeaf k rs (page_records bytes) start high
  pub cut : IsCut told page height k start (page_records bytes) high

-- the leaf is a page from 1 on of so many, and the key stays below its bound where it stays below the one at the start
pub record IsInRange (size : ℕ) (k : Key) (start : Option Key) (result : Result Found Stop) : Type 0 where
  pub range : IfOk result (λ found. (1 ≤ found.page) × (found.page < size))
  pub above : IfOk result (λ found. is_below start k ≡ true → is_below found.high k ≡ true)
