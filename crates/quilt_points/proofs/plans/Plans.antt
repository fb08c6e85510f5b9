-- What goes and comes in a point layer, as edits of its records.
use Rattle.std.proofs.Common.{◌≡◌, ℕ, ◌≤◌, List, [], ◌∷◌, map, Option, Some, refl, sym, ◌∙◌, ap, subst, ⊎_elim, Contains}
use Rattle.std.specs.List.Sorted.{IsPermutation}
use Rattle.quilt_types.specs.declared.plane.Block.{Block}
use Rattle.quilt_types.specs.Layers.{Layer, Points, PointMap, IsPointMap}
use Rattle.quilt_types.specs.Facts.{Fact, HoldsPoint, HoldsNoPoint, facts}
use Rattle.quilt_loc.proofs.Members.{Contains-here, Contains-there, Contains-map_from}
use Rattle.quilt_loc.proofs.CodeLaws.{depth_is}
use Rattle.quilt_record.specs.declared.record.Record.{Record}
use Rattle.quilt_record.specs.Records.{record_of}
use Rattle.quilt_record.specs.Canonical.{point_fact}
use Rattle.quilt_spell.specs.Apart.{Apart}
use Rattle.quilt_spell.specs.Changing.{LeadsTo}
use Rattle.quilt_spell.proofs.facts.FactKeys.{fact_alone}
use Rattle.quilt_point_laws.specs.Swapping.{Swaps}
use Rattle.quilt_point_laws.proofs.Leads.{points_lead}
use Rattle.quilt_point_laws.proofs.OnBlocks.{IsOn, OfBlock, fact_from, kind_is}
use Rattle.quilt_record.specs.declared.edits.Edits.{Edits}
use Rattle.quilt_points.specs.Layers.{block_record}
use Rattle.quilt_points.specs.Reads.{IsRow}
use Rattle.quilt_edits.specs.Edits.{HaveOwnKeys, CanBeEdits}
use Rattle.quilt_points.specs.Plans.{IsPointPlan}
use Rattle.quilt_points.proofs.Shapes.{shaped, point_record_is, key_is}
use Rattle.quilt_points.proofs.Ranges.{same_block}
use Rattle.quilt_points.proofs.Said.{row_alone}
use Rattle.quilt_edits.proofs.Ascents.{permuted, Apart-permuted}

-- edits may be listed otherwise
pub leads_permuted : (n : ℕ) (name : List ℕ) (number : ℕ) (old new : Option Layer) (removed added remove add : List Record)
    → IsPermutation removed remove → IsPermutation added add
    → LeadsTo n name number old new removed added → LeadsTo n name number old new remove add
leads_permuted n name number old new removed added remove add pr pa h = record {
  remove = λ r. (λ c. (h.remove r).0 ((permuted removed remove pr r).1 c), λ c. (permuted removed remove pr r).0 ((h.remove r).1 c));
  remove_once = Apart-permuted removed remove pr h.remove_once;
  add = λ r. (λ c. (h.add r).0 ((permuted added add pa r).1 c), λ c. (permuted added add pa r).0 ((h.add r).1 c));
  add_once = Apart-permuted added add pa h.add_once;
}

same_map : {X Y : Type 0} (f g : X → Y) (xs : List X) → ((x : X) → Contains xs x → f x ≡ g x) → map f xs ≡ map g xs
same_map f g [] h = refl
same_map f g (x ∷ xs) h = λ i. h x (Contains-here x xs) i ∷ same_map f g xs (λ y c. h y (Contains-there x xs y c)) i

-- the record of a fact on a block does not depend on the name
pub nameless : (n capacity number : ℕ) (name : List ℕ) (points : PointMap) (b : Block) (f : Fact) → IsOn points b f
    → record_of n capacity name number f ≡ block_record n capacity number f
nameless n capacity number name points b (HoldsPoint d q k) o = refl
nameless n capacity number name points b (HoldsNoPoint d) o = refl
nameless n capacity number name points b f o = absurd o

module _ (n capacity number : ℕ) (le : n ≤ 12) (least : 1 ≤ number) (most : number ≤ 255) where
  -- facts with one record
  pub record_tells : (one other : PointMap) → IsPointMap 2 n capacity one → IsPointMap 2 n capacity other → (f g : Fact)
      → (wf : OfBlock n capacity one f) → (wg : OfBlock n capacity other g)
      → block_record n capacity number f ≡ block_record n capacity number g → f ≡ g
  record_tells one other vf vg f g wf wg e =
      let sf = shaped n capacity one vf f wf in
      let sg = shaped n capacity other vg g wg in
      let kf = key_is n capacity number one wf.block f wf.on in
      let kg = key_is n capacity number other wg.block g wg.on in
      let hf = (wf.maximal).block in
      let hg = (wg.maximal).block in
      let same : wf.block ≡ wg.block =
      same_block n wf.block wg.block le hf hg (sym kf.code ∙ ap (λ (r : Record). r.key.code) e ∙ kg.code)
      (sym (depth_is n wf.block hf) ∙ sym kf.depth ∙ ap (λ (r : Record). r.key.depth) e ∙ kg.depth ∙ depth_is n wg.block hg) in
      let row : block_record n capacity number (point_fact wf.block sf.held) ≡ block_record n capacity number (point_fact wg.block sg.held) =
      ap (block_record n capacity number) (sym sf.is) ∙ e ∙ ap (block_record n capacity number) sg.is in
      let first = point_record_is n capacity number wf.block sf.held least most sf.fits in
      let second = point_record_is n capacity number wg.block sg.held least most sg.fits in
      let held : sf.held ≡ sg.held =
      row_alone n capacity number wf.block (block_record n capacity number (point_fact wf.block sf.held)) sf.held sg.held le first
      (subst (λ (z : Block). IsRow n capacity number z sg.held (block_record n capacity number (point_fact wf.block sf.held))) (sym same)
      (subst (λ (r : Record). IsRow n capacity number wg.block sg.held r) (sym row) second)) in
      sf.is ∙ (λ i. point_fact (same i) (held i)) ∙ sym sg.is

  -- what goes and comes
  module _ (old new : PointMap) (vo : IsPointMap 2 n capacity old) (vn : IsPointMap 2 n capacity new) (gone come : List Fact)
      (s : Swaps (facts n (Points capacity old)) (facts n (Points capacity new)) gone come) (ag : Apart gone) (ac : Apart come) where
    gone_of : (f : Fact) → Contains gone f → OfBlock n capacity old f
    gone_of f c =
        let w = (s.goes f).0 c in
        ⊎_elim (λ e. absurd (w.1 (kind_is n capacity new f e))) (λ o. o) (fact_from n capacity old f w.0)

    come_of : (f : Fact) → Contains come f → OfBlock n capacity new f
    come_of f c =
        let w = (s.comes f).0 c in
        ⊎_elim (λ e. absurd (w.1 (kind_is n capacity old f e))) (λ o. o) (fact_from n capacity new f w.0)

    pub leads : (name : List ℕ) → LeadsTo n name number (Some (Points capacity old)) (Some (Points capacity new))
        (map (block_record n capacity number) gone) (map (block_record n capacity number) come)
    leads name =
        subst (λ (rs : List Record). LeadsTo n name number (Some (Points capacity old)) (Some (Points capacity new)) rs
        (map (block_record n capacity number) come))
        (same_map (record_of n capacity name number) (block_record n capacity number) gone (λ f c. let w = gone_of f c in
        nameless n capacity number name old w.block f w.on))
        (subst (λ (rs : List Record). LeadsTo n name number (Some (Points capacity old)) (Some (Points capacity new))
        (map (record_of n capacity name number) gone) rs)
        (same_map (record_of n capacity name number) (block_record n capacity number) come (λ f c. let w = come_of f c in
        nameless n capacity number name new w.block f w.on))
        (points_lead 2 n name number capacity le least old new vo vn gone come s ag ac))

    own_keys : (points : PointMap) → IsPointMap 2 n capacity points → (fs : List Fact)
        → ((f : Fact) → Contains fs f → Contains (facts n (Points capacity points)) f) → Apart (map (block_record n capacity number) fs)
        → HaveOwnKeys (map (block_record n capacity number) fs)
    own_keys points v fs of once = record {
      once = once;
      keys = λ r q cr cq e.
          let f = Contains-map_from (block_record n capacity number) fs r cr in
          let g = Contains-map_from (block_record n capacity number) fs q cq in
          let one = fact_alone n le [] number least 2 (Points capacity points) v f.0 g.0 (of f.0 f.1) (of g.0 g.1)
          (ap (λ (z : Record). z.key) f.2 ∙ e ∙ ap (λ (z : Record). z.key) (sym g.2)) in
          sym f.2 ∙ ap (block_record n capacity number) one ∙ g.2;
    }

    pub can : CanBeEdits (map (block_record n capacity number) gone) (map (block_record n capacity number) come)
    can =
        let l = leads [] in record {
          remove_keys = own_keys old vo gone (λ f c. ((s.goes f).0 c).0) l.remove_once;
          add_keys = own_keys new vn come (λ f c. ((s.comes f).0 c).0) l.add_once;
          apart = λ r cr ca.
              let f = Contains-map_from (block_record n capacity number) gone r cr in
              let g = Contains-map_from (block_record n capacity number) come r ca in
              let same = record_tells old new vo vn f.0 g.0 (gone_of f.0 f.1) (come_of g.0 g.1) (f.2 ∙ sym g.2) in
              ((s.goes f.0).0 f.1).1 (subst (Contains (facts n (Points capacity new))) (sym same) ((s.comes g.0).0 g.1).0);
        }

    pub plan : ((form : ℕ) → IsPointMap form n capacity old → IsPointMap form n capacity new) → (edits : Edits)
        → IsPermutation (map (block_record n capacity number) gone) edits.remove → IsPermutation (map (block_record n capacity number) come) edits.add
        → IsPointPlan n number capacity old new edits
    plan valid edits pr pa = record {
      valid = valid;
      leads = λ name. leads_permuted n name number (Some (Points capacity old)) (Some (Points capacity new))
          (map (block_record n capacity number) gone) (map (block_record n capacity number) come) edits.remove edits.add pr pa (leads name);
    }
