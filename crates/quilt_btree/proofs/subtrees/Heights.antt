-- The height of a tree, and the most pages that it can use.
use Rattle.std.proofs.Common.{◌≡◌, ℕ, zero, suc, ◌+◌, ◌-◌, ◌*◌, ◌/◌, ◌≤◌, true, List, [], length, slice_index_or, ◌∙◌, ap, subst, arith}
use Rattle.quilt_record.specs.declared.record.Record.{Record}
use Rattle.quilt_node.specs.Tree.{Whole, walk_of, Bounds}
use Rattle.quilt_btree.specs.Subtree.{Subtree}
use Rattle.quilt_btree.proofs.subtrees.Density.{root_is_dense}
use Rattle.quilt_btree.proofs.subtrees.Trees.{inner_list}
use Rattle.quilt_btree.proofs.growth.TreeGrowth.{everywhere, root_found}
use Rattle.std.proofs.lemmas.List.{append-nil}

subtree_low : (pages : List (List ℕ)) (height : ℕ) (at : ℕ × Bounds) (rs : List Record) (used : List ℕ) → Subtree pages height true at rs used → height ≤ 3
subtree_low pages zero at rs used s = absurd s
subtree_low pages (suc zero) at rs used s = omega arith
subtree_low pages (suc (suc h)) at rs used s =
    let list = inner_list (length pages) (slice_index_or pages at.0 []) s.inner s.page in
    subst (λ n. n ≤ 3) s.is_height list.high

pub walk_low : (pages : List (List ℕ)) (root height : ℕ) (rs : List Record) (visited : List ℕ) → walk_of pages root height ≡ Whole rs visited → height ≤ 3
walk_low pages root zero rs visited w = omega arith
walk_low pages root (suc h) rs visited w =
    let some : 1 ≤ suc h = omega arith in
    let found = root_found pages root (suc h) rs visited some w in
    subtree_low pages (suc h) (root, everywhere) rs found.used found.spells

pub walk_pages : (pages : List (List ℕ)) (root height records : ℕ) (rs : List Record) (visited : List ℕ)
    → walk_of pages root height ≡ Whole rs visited → length rs ≤ records → length visited ≤ records * 16 / 1143 + 1
unfolding walk_of
walk_pages pages root zero records rs visited w few =
    let empty : visited ≡ [] = cc in
    none (length visited) records (ap length empty)
  where
    none : (v r : ℕ) → v ≡ 0 → v ≤ r * 16 / 1143 + 1
    none v r e = omega arith
walk_pages pages root (suc h) records rs visited w few =
    let some : 1 ≤ suc h = omega arith in
    let found = root_found pages root (suc h) rs visited some w in
    let dense =
    root_is_dense pages (suc h) (root, everywhere) rs found.used (subtree_low pages (suc h) (root, everywhere) rs found.used found.spells) found.spells in
    most (length visited) (length found.used) (length rs) records (ap length (found.is_now ∙ append-nil found.used)) dense few
  where
    most : (v u n r : ℕ) → v ≡ u → 9144 * (u - 1) ≤ 128 * n → n ≤ r → v ≤ r * 16 / 1143 + 1
    most v u n r e d h = omega arith
