-- A leaf that is edited where it lies.
use Rattle.std.proofs.Common.{◌≡◌, ℕ, ◌≤◌, Bool, List, [], length, take, Option, Some, None, IfSome, slice_index_or, slice_set}
use Rattle.std.proofs.Common.{refl, ◌∙◌, ap, subst}
use Rattle.std.specs.Prelude.{if◌then◌else◌}
use Rattle.std.proofs.lemmas.List.{set-get_or}
use Rattle.quilt_record.specs.declared.key.Key.{Key}
use Rattle.quilt_record.specs.declared.record.Record.{Record}
use Rattle.quilt_node.specs.Pages.{leaf_of}
use Rattle.quilt_node.specs.Tree.{Bounds, is_above}
use Rattle.quilt_world.specs.Tale.{Goes}
use Rattle.quilt_btree.specs.declared.edit.Edit.{Edit}
use Rattle.quilt_btree.specs.Batches.{edit_all, EditsLeaf, DidEdit}
use Rattle.quilt_btree.specs.Edits.{CanEdit}
use Rattle.quilt_btree.specs.Subtree.{Subtree}
use Rattle.quilt_btree.proofs.batches.Below.{LieWithin, leaf_edited, all_first}
use Rattle.quilt_btree.proofs.stores.Writes.{WritesPage}
use Rattle.quilt_btree.proofs.ways.Forks.{are_of}

module _ (told : Option (List (List ℕ))) (free : ℕ → Bool) (page : ℕ) (is_root : Bool) (b : Bounds) (rs : List Record) (used old : List ℕ)
    (shown : IfSome told (λ pages. old ≡ slice_index_or pages page [])) where
  -- the leaf that the page lends
  pub lent_leaf : CanEdit told free page 1 is_root b rs used → leaf_of old ≡ Some rs
  lent_leaf can =
      let s : Subtree can.pages 1 is_root (page, b) rs used = can.subtree in
      ap leaf_of (are_of told page old shown can.pages can.is_told) ∙ s.page

-- the first edits of the run were made where the leaf lies
pub leaf_made : {told now_told : Option (List (List ℕ))} {free now : ℕ → Bool} {size page least : ℕ} {is_root : Bool} {b : Bounds} {rs : List Record}
    {used : List ℕ} {high : Option Key} {run : List Edit} {n : ℕ} {bytes : List ℕ} → WritesPage told now_told size page bytes
    → EditsLeaf least run n rs bytes → 1 ≤ n → least ≡ (if is_root then 1 else 72) → LieWithin b high run (take n run) → now ≡ free
    → CanEdit told free page 1 is_root b rs used → DidEdit (take n run) told now_told free now page 1 is_root b rs used
leaf_made {b = b} {rs = rs} {run = run} {n = n} w made one lower fits same_free can =
    leaf_edited w made.is (record { is = refl; due = made.due }) refl
    (record { above = all_first (is_above b.low) n run fits.above; below = fits.below; top = fits.top }) same_free
    (subst (λ k. k ≤ length (edit_all (take n run) rs)) lower (made.enough one)) can

-- bytes that are written back as they were change nothing
pub wrote_same : (told now_told : Option (List (List ℕ))) (page : ℕ) (old bytes : List ℕ) → IfSome told (λ pages. old ≡ slice_index_or pages page [])
    → bytes ≡ old → Goes (λ before after. after ≡ slice_set before page bytes) told now_told → now_told ≡ told
wrote_same None None page old bytes shown same wrote = refl
wrote_same None (Some after) page old bytes shown same wrote = absurd wrote
wrote_same (Some before) None page old bytes shown same wrote = absurd wrote
wrote_same (Some before) (Some after) page old bytes shown same wrote =
    ap Some (wrote ∙ ap (slice_set before page) (same ∙ shown) ∙ set-get_or before page [])
