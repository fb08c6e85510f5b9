-- An inner page is written with one child fewer.
use Rattle.std.proofs.Common.{◌≡◌, ℕ, suc, ◌+◌, ◌<◌, true, ◌&&◌, nat_le, nat_lt, List, length, Option, Some, IfSome, slice_set, sym, ◌∙◌, ap, subst, arith}
use Rattle.quilt_node.specs.Pages.{Inner, inner_of}
use Rattle.quilt_node.specs.Nodes.{are_pages}
use Rattle.quilt_node.specs.Edits.{without_child}
use Rattle.quilt_world.specs.Tale.{Goes}
use Rattle.quilt_btree.specs.Rebalancing.{WritesInner}
use Rattle.quilt_btree.proofs.removals.LeafRemovals.{tells_on, all_removed, one_fewer}

module _ (told now_told : Option (List (List ℕ))) (size page : ℕ) where
  pub inner_written : (inner : Inner) (bytes : List ℕ) → IfSome told (λ l. length l ≡ size)
      → Goes (λ old new. new ≡ slice_set old page bytes) told now_told → are_pages size inner.children ≡ true
      → ((n : ℕ) → are_pages n inner.children ≡ true → inner_of n bytes ≡ Some inner) → WritesInner page inner told now_told
  inner_written inner bytes many tells children written pages e =
      let on = tells_on (λ old new. new ≡ slice_set old page bytes) told now_told pages e tells in
      let long : length pages ≡ size = subst (λ o. IfSome o (λ l. length l ≡ size)) e many in
      record { bytes = bytes; is = on.1 ∙ ap Some on.2; inner_is = written (length pages) (subst (λ n. are_pages n inner.children ≡ true) (sym long) children) }

  pub dropped_written : (j : ℕ) (inner : Inner) {less : Inner} (bytes : List ℕ) → IfSome told (λ l. length l ≡ size)
      → Goes (λ old new. new ≡ slice_set old page bytes) told now_told → are_pages size inner.children ≡ true → less ≡ without_child inner j
      → ((n : ℕ) → are_pages n less.children ≡ true → inner_of n bytes ≡ Some less) → WritesInner page (without_child inner j) told now_told
  dropped_written j inner {less} bytes many tells children is written =
      subst (λ (i : Inner). WritesInner page i told now_told) is
      (inner_written less bytes many tells
      (subst (λ (i : Inner). are_pages size i.children ≡ true) (sym is) (all_removed (λ c. nat_le 1 c && nat_lt c size) inner.children (suc j) children)) written)

pub dropped_many : (inner : Inner) {less : Inner} (j : ℕ) {n m : ℕ} → less ≡ without_child inner j → j < length inner.keys → n ≡ length inner.children
    → n ≡ length inner.keys + 1 → m ≡ length less.children → suc m ≡ length inner.children
dropped_many inner j is inside e f g =
    let there : suc j < length inner.children = omega arith in
    ap suc (g ∙ ap (λ (i : Inner). length i.children) is) ∙ one_fewer inner.children (suc j) there
