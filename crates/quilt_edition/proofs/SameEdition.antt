-- Home pages that agree on the header and on the pages of the tree hold the same edition.
use Rattle.std.proofs.Common.{◌≡◌, ℕ, zero, suc, ◌==◌, true, List, [], length, sym, ◌∙◌, ap, subst, append-nil}
use Rattle.std.specs.Prelude.{slice_index_or}
use Rattle.std.specs.List.{list_any}
use Rattle.quilt_types.specs.Layers.{Edition}
use Rattle.quilt_record.specs.declared.record.Record.{Record}
use Rattle.quilt_node.specs.Pages.{IsHeader}
use Rattle.quilt_node.specs.Tree.{Whole, walk_of}
use Rattle.quilt_world.specs.Home.{page_of}
use Rattle.quilt_edition.specs.Stands.{HoldsEdition}
use Rattle.quilt_btree.proofs.lists.Rows.{subtree_stays}
use Rattle.quilt_btree.proofs.growth.TreeGrowth.{everywhere}
use Rattle.quilt_btree.proofs.subtrees.Walks.{walk_found, walk_again}

module _ (pages others : List (List ℕ)) (size : length pages ≡ length others) where
  -- a walk that finds a whole tree finds it again
  pub same_walk : (root height : ℕ) (rs : List Record) (visited : List ℕ)
      → ((p : ℕ) → list_any (λ v. v == p) visited ≡ true → slice_index_or pages p [] ≡ slice_index_or others p [])
      → walk_of others root height ≡ Whole rs visited → walk_of pages root height ≡ Whole rs visited
  unfolding walk_of
  same_walk root zero rs visited same w = w
  same_walk root (suc h) rs visited same w =
      let found = walk_found others (suc h) true (root, everywhere) [] rs visited w in
      let used : found.used ≡ visited = sym (found.is_now ∙ append-nil found.used) in
      let stays = subtree_stays others pages size (suc h) true (root, everywhere) rs found.used
      (λ p is. same p (ap (λ l. list_any (λ v. v == p) l) (sym used) ∙ is)) found.spells in
      walk_again pages (suc h) true (root, everywhere) [] found.used stays found.fresh ∙ ap (λ l. Whole rs l) (sym found.is_now)

  pub same_edition : (e : Edition) (h : HoldsEdition others e) → page_of pages 0 ≡ page_of others 0
      → ((p : ℕ) → list_any (λ v. v == p) h.visited ≡ true → slice_index_or pages p [] ≡ slice_index_or others p [])
      → HoldsEdition pages e
  same_edition e h first same = record {
    head = h.head;
    header = subst (λ n. IsHeader n (page_of pages 0) h.head) (sym size) (subst (λ bytes. IsHeader (length others) bytes h.head) (sym first) h.header);
    format = h.format;
    number = h.number;
    level = h.level;
    records = h.records;
    visited = h.visited;
    tree = same_walk h.head.root h.head.height h.records h.visited same h.tree;
    count = h.count;
    spelled = h.spelled;
  }
