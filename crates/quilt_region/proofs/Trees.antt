-- The records of a tree rise by their keys.
use Rattle.std.proofs.Common.{ℕ, List, Option, sym, subst, ⊎_elim}
use Rattle.std.proofs.lemmas.Bool.{cases_eq}
use Rattle.quilt_loc.specs.Codes.{Rises}
use Rattle.quilt_record.specs.declared.record.Record.{Record}
use Rattle.quilt_spell.specs.Written.{by_key}
use Rattle.quilt_edits.proofs.Ascents.{ascending_rises}
use Rattle.quilt_btree.specs.declared.tree.Tree.{Tree}
use Rattle.quilt_btree.specs.Trees.{IsTree}
use Rattle.quilt_btree.proofs.subtrees.Trees.{subtree_rises}
use Rattle.quilt_btree.proofs.subtrees.Whole.{tree_spells, no_records}

pub tree_rises : (told : Option (List (List ℕ))) (t : Tree) (rs : List Record) → IsTree told t rs → Rises by_key rs
tree_rises told t rs is =
    ⊎_elim (λ none. subst (Rises by_key) (sym (no_records told t rs none is)) tt)
    (λ some.
    let s = (tree_spells told t rs some is).0 in
    ascending_rises rs (subtree_rises s.pages t.height s.is_root (t.root, s.bounds) rs s.used s.subtree).ascends)
    (cases_eq t.height 0)
