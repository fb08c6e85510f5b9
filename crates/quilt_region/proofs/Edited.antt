-- The records after a plan.
use Rattle.std.proofs.Common.{◌≡◌, inl, inr, ℕ, ◌≤◌, true, false, not, List, map, filter, sym, ◌∙◌, ap, subst, ⊎_elim, Contains}
use Rattle.std.proofs.lemmas.Bool.{cases_Bool}
use Rattle.quilt_types.specs.declared.plane.Block.{Block}
use Rattle.quilt_types.specs.Layers.{Grid, IsGrid}
use Rattle.quilt_types.specs.Quadtrees.{leaves}
use Rattle.quilt_loc.proofs.Members.{Contains-map, Contains-map_from, Contains-filter}
use Rattle.quilt_record.specs.declared.record.Record.{Record}
use Rattle.quilt_record.specs.declared.edits.Edits.{Edits}
use Rattle.quilt_blocks.specs.Cutting.{leaves_by_code}
use Rattle.quilt_blocks.proofs.Cuts.{leaf_is, leaves_members}
use Rattle.quilt_spell.specs.OfLayer.{leaf_record}
use Rattle.quilt_region.specs.Regions.{SpellsGrid}
use Rattle.quilt_region.specs.Plans.{ReplacesGrid, IsEditedBy, is_leaf, records_without}
use Rattle.quilt_region.proofs.Records.{leaf_alone}
use Rattle.quilt_region.proofs.Leaves.{is_leaf_from, is_leaf_at, only_leaf, only_test}

true_false : true ≡ false → ⊥
true_false e = cc

-- the record of a leaf that the other grid does not have is one of those
pub only_in : (n layer : ℕ) (g other : Grid) (e : Block × ℕ) → Contains (leaves n g) e → is_leaf n other e ≡ false
    → Contains (records_without n layer g other) (leaf_record n layer e)
unfolding records_without
only_in n layer g other e c f =
    Contains-map (leaf_record n layer) (filter (only_test n other) (leaves_by_code n g)) e
    (Contains-filter (only_test n other) (leaves_by_code n g) e ((leaves_members n g e).1 c) (ap not f))

module _ (n layer : ℕ) (g h : Grid) (le : n ≤ 12) where
  -- the record of a leaf that both have does not go
  both_stay : (e : Block × ℕ) → Contains (leaves n h) e → Contains (records_without n layer g h) (leaf_record n layer e) → ⊥
  both_stay e c d =
      let o = only_leaf n layer g h (leaf_record n layer e) d in
      let same = leaf_alone n layer o.0 e le (o.1).maximal.block (leaf_is n h e c).maximal.block o.4 in
      true_false (sym (is_leaf_at n h e c) ∙ ap (is_leaf n h) (sym same) ∙ o.3)

  module _ (edits : Edits) (rs now : List Record) (leads : ReplacesGrid n layer g h edits) (spells : SpellsGrid rs layer n g) (is : IsEditedBy rs edits now) where
    each_there : (e : Block × ℕ) → Contains (leaves n h) e → Contains now (leaf_record n layer e)
    each_there e c =
        (is (leaf_record n layer e)).1
        (⊎_elim
        (λ t. inl (spells.each e (is_leaf_from n g e t), λ d. both_stay e c (subst (λ (l : List Record). Contains l (leaf_record n layer e)) leads.remove d)))
        (λ f. inr (subst (λ (l : List Record). Contains l (leaf_record n layer e)) (sym leads.add) (only_in n layer h g e c f)))
        (cases_Bool (is_leaf n g e)))

    leaf_of_new : (r : Record) (e : Block × ℕ) → Contains (leaves n h) e → leaf_record n layer e ≡ r → Contains (map (leaf_record n layer) (leaves n h)) r
    leaf_of_new r e c same = subst (Contains (map (leaf_record n layer) (leaves n h))) same (Contains-map (leaf_record n layer) (leaves n h) e c)

    only_those : (r : Record) → Contains now r → r.key.layer ≡ layer → Contains (map (leaf_record n layer) (leaves n h)) r
    only_those r c of =
        ⊎_elim
        (λ old.
        let l = Contains-map_from (leaf_record n layer) (leaves n g) r (spells.only r old.0 of) in
        ⊎_elim
        (λ t. leaf_of_new r l.0 (is_leaf_from n h l.0 t) l.2)
        (λ f. absurd (old.1 (subst (λ (s : List Record). Contains s r) (sym leads.remove)
        (subst (Contains (records_without n layer g h)) l.2 (only_in n layer g h l.0 l.1 f)))))
        (cases_Bool (is_leaf n h l.0)))
        (λ new. let o = only_leaf n layer h g r (subst (λ (s : List Record). Contains s r) leads.add new) in leaf_of_new r o.0 o.2 o.4)
        ((is r).0 c)

    pub edited_spells : IsGrid 2 n h → SpellsGrid now layer n h
    edited_spells grid = record { grid = grid; each = each_there; only = only_those }
