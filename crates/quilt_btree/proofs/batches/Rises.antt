-- The records of a whole tree ascend.
use Rattle.std.proofs.Common.{◌≡◌, ℕ, zero, suc, ◌≤◌, Bool, true, List, Option, refl, sym, subst, arith}
use Rattle.quilt_record.specs.declared.record.Record.{Record}
use Rattle.quilt_node.specs.Pages.{is_ascending}
use Rattle.quilt_node.specs.Nodes.{keys_of}
use Rattle.quilt_btree.specs.declared.tree.Tree.{Tree}
use Rattle.quilt_btree.specs.Edits.{IsWhole}
use Rattle.quilt_btree.proofs.growth.TreeGrowth.{everywhere, root_found}
use Rattle.quilt_btree.proofs.subtrees.Trees.{subtree_rises}
use Rattle.quilt_btree.proofs.subtrees.Whole.{no_records}

pub whole_rises : (told : Option (List (List ℕ))) (free : ℕ → Bool) (size : ℕ) (t : Tree) (rs : List Record) → IsWhole told free size t rs
    → is_ascending (keys_of rs) ≡ true
whole_rises told free size t rs w = at t.height refl
  where
    at : (h : ℕ) → t.height ≡ h → is_ascending (keys_of rs) ≡ true
    at zero e = subst (λ l. is_ascending (keys_of l) ≡ true) (sym (no_records told t rs e w.tree)) refl
    at (suc h) e =
        let found = root_found w.tree.pages t.root t.height rs w.tree.visited (tall t.height h e) w.tree.walk in
        (subtree_rises w.tree.pages t.height true (t.root, everywhere) rs found.used found.spells).ascends
      where
        tall : (n h : ℕ) → n ≡ suc h → 1 ≤ n
        tall n h e = omega arith
