-- An edit goes down through an inner page whose bytes were not validated.
use Rattle.std.proofs.Common.{◌≡◌, ℕ, List, [], length, Option, Some, IfSome, slice_index, slice_index_or, sym, ◌∙◌, ap, subst}
use Rattle.quilt_record.specs.declared.key.Key.{Key}
use Rattle.quilt_record.specs.declared.record.Record.{Record}
use Rattle.quilt_node.specs.Pages.{Inner, inner_of}
use Rattle.quilt_node.specs.Nodes.{IsPlace}
use Rattle.quilt_btree.specs.Floors.{child_place}
use Rattle.quilt_btree.specs.Searches.{AreOf, IsPath, IsHigh}
use Rattle.quilt_btree.specs.Trees.{SpellsSubtree, ReadsInner}
use Rattle.quilt_btree.proofs.ways.Forks.{IsRead, page_here}

module _ (told : Option (List (List ℕ))) (page size : ℕ) (bytes : List ℕ) where
  reads_inner : (inner : Inner) → IfSome told (λ pages. length pages ≡ size) → AreOf told page bytes → inner_of size bytes ≡ Some inner
      → ReadsInner told page inner
  reads_inner inner many are is = λ pages t.
      let long : length pages ≡ size = subst (λ o. IfSome o (λ pages. length pages ≡ size)) t many in
      ap (λ m. inner_of m (slice_index_or pages page [])) long ∙ ap (inner_of size) (sym (are pages t)) ∙ is

  pub is_path : (k : Key) (place child : ℕ) → IfSome told (λ pages. length pages ≡ size) → AreOf told page bytes
      → ((inner : Inner) → inner_of size bytes ≡ Some inner → (place ≡ child_place k inner) × IsPlace inner.keys k place × (child ≡ slice_index inner.children place))
      → (inner : Inner) → inner_of size bytes ≡ Some inner → IsPath told page k place child inner
  is_path k place child many are f inner is =
      let w = f inner is in
      record { reads = reads_inner inner many are is; is_place = w.1; child_is = w.2 }

pub is_high : {old new : Option (List (List ℕ))} {page height size : ℕ} {bytes : List ℕ} {rs : List Record} → IsRead old new page height size bytes
    → SpellsSubtree old page height rs → IsHigh size bytes height
is_high r s = let h = page_here r s in
    record { inner = h.inner; is = h.is; is_height = h.is_height }
