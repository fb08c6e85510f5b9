-- What an addition changes.
use Rattle.std.proofs.Common.{◌≡◌, ◌⊎◌, ℕ, Bool, true, false, cond, List, [], ◌∷◌, flat_map, Some, None, refl, sym, ap, ◌∙◌, subst, inl, inr, ⊎_elim, Contains}
use Rattle.std.specs.FinMap as finmap
use Rattle.std.specs.FinMap.{nat_cmp-IsAntisymmetric}
use Rattle.std.specs.Ordering.{nat_cmp}
use Rattle.std.specs.Cmp.{nat_cmp_total}
use Rattle.std.proofs.lemmas.Bool.{cases_Bool, both_ways, cases_eq}
use Rattle.std.proofs.lemmas.List.Elements.{All-contains}
use Rattle.quilt_types.specs.Sets as finset
use Rattle.quilt_types.specs.declared.plane.Block.{Block}
use Rattle.quilt_types.specs.declared.plane.Seg.{Seg}
use Rattle.quilt_types.specs.Plane.{quarters_of, blocks}
use Rattle.quilt_types.specs.Layers.{Lines, SegMap, BlockSet, IsLineMap}
use Rattle.quilt_types.specs.Segments.{square, meets}
use Rattle.quilt_types.specs.Quadtrees.{is_split, after_add}
use Rattle.quilt_types.specs.Facts.{Fact, IsOfKind, HasColour, HoldsPoint, HoldsNoPoint, IsSegment, IsMetBy, IsMetByNone, line_facts, facts}
use Rattle.quilt_loc.proofs.Members.{Contains-nil, Contains-here, Contains-there, Contains-cons_cases, Contains-flat_map, Contains-flat_map_from}
use Rattle.quilt_loc.proofs.Blocks.{IsBlock-from}
use Rattle.quilt_spell.proofs.Maps.{same_or_not, get_inserted, get_others}
use Rattle.quilt_line_laws.proofs.Covers.{IsCover-from}
use Rattle.quilt_line_laws.proofs.Merges.{IsBlockCover}
use Rattle.quilt_line_laws.specs.Lines.{IsMet, IsLineFact, IsOnBlock, IsMetList, none_on, added_on, removed_on, facts_added, facts_removed, IsAlone, AddLaw}
use Rattle.quilt_line_laws.proofs.LineFacts.{on_block, block_on, none_on_from, none_on_has, says, said, on_cover}
use Rattle.quilt_line_laws.proofs.Cutting.{cut_says, after_from, after_quarter, after_stays, quarter_new, cut_gone}

pub cover_of : (n t : ℕ) (segs : SegMap) (cover : BlockSet) → IsLineMap n t segs cover → IsBlockCover n cover
cover_of n t segs cover h = record {
  only = λ b c. IsBlock-from n b (All-contains (Contains (blocks n)) (finset.items cover) b h.each c);
  covers = IsCover-from n cover h.once;
}

pub same_seg_value : (a b : Seg) → Some a ≡ Some b → a ≡ b
same_seg_value a b e = cc

pub no_seg : (a : Seg) → None ≡ Some a → ⊥
no_seg a e = cc

-- ---- look-ups
module _ (segs : SegMap) (id : ℕ) (s : Seg) where
  abbrev now : SegMap
  now = finmap.insert segs id s

  got_new : finmap.get now id ≡ Some s
  got_new = get_inserted nat_cmp nat_cmp_total nat_cmp-IsAntisymmetric segs id s

  got_other : (q : ℕ) → (q ≡ id → ⊥) → finmap.get now q ≡ finmap.get segs q
  got_other q d = get_others nat_cmp nat_cmp_total nat_cmp-IsAntisymmetric segs id s q d

  -- who meets a block afterwards
  pub met_now : (b : Block) (q : ℕ) → IsMet now b q → ((q ≡ id) × (meets s (square b) ≡ true)) ⊎ IsMet segs b q
  met_now b q m =
      ⊎_elim
      (λ e.
      let is = same_seg_value s m.0 (sym got_new ∙ ap (finmap.get now) (sym e) ∙ m.1) in
      inl (e, subst (λ (z : Seg). meets z (square b) ≡ true) (sym is) m.2))
      (λ d. inr (m.0, sym (got_other q d) ∙ m.1, m.2)) (cases_eq q id)

  pub met_here : (b : Block) → meets s (square b) ≡ true → IsMet now b id
  met_here b e = (s, got_new, e)

  module _ (new : finmap.get segs id ≡ None) where
    pub unlike : (q : ℕ) (r : Seg) → finmap.get segs q ≡ Some r → q ≡ id → ⊥
    unlike q r g e = no_seg r (sym new ∙ ap (finmap.get segs) (sym e) ∙ g)

    kept : (q : ℕ) (r : Seg) → finmap.get segs q ≡ Some r → finmap.get now q ≡ Some r
    kept q r g = got_other q (unlike q r g) ∙ g

    pub met_still : (b : Block) (q : ℕ) → IsMet segs b q → IsMet now b q
    met_still b q m = (m.0, kept q m.0 m.1, m.2)

    module _ (n t : ℕ) (cover : BlockSet) (h : IsBlockCover n cover) (met : List Block) (list : IsMetList cover s met) where
      abbrev cut : Block → Bool
      cut b = is_split t now s b

      abbrev later : BlockSet
      later = after_add t now cover s

      abbrev old_facts : List Fact
      old_facts = facts n (Lines t segs cover)

      abbrev new_facts : List Fact
      new_facts = facts n (Lines t now later)

      -- ---- lists
      among : (b : Block) → Contains (finset.items cover) b → meets s (square b) ≡ true → Contains met b
      among b c e = (list.are b).1 (c, e)

      among_from : (b : Block) → Contains met b → Contains (finset.items cover) b × (meets s (square b) ≡ true)
      among_from b c = (list.are b).0 c

      add_on : (b : Block) (f : Fact) → Contains (finset.items cover) b → meets s (square b) ≡ true → Contains (added_on t now id s b) f
          → Contains (facts_added t segs id s met) f
      add_on b f c e m =
          Contains-there (IsSegment id s) (flat_map (added_on t now id s) met) f
          (Contains-flat_map (added_on t now id s) met b f (among b c e) m)

      remove_on : (b : Block) (f : Fact) → Contains (finset.items cover) b → meets s (square b) ≡ true → Contains (removed_on t segs now s b) f
          → Contains (facts_removed t segs id s met) f
      remove_on b f c e m = Contains-flat_map (removed_on t segs now s) met b f (among b c e) m

      -- a fact on a quarter of a cut block comes
      add_quarter : (b q : Block) (f : Fact) → Contains (finset.items cover) b → cut b ≡ true → Contains (quarters_of b) q → IsOnBlock now q f
          → Contains (facts_added t segs id s met) f
      add_quarter b q f c e m o =
          add_on b f c (cut_says t now s b e).met
          (subst (λ (u : Bool). Contains (cond {A = List Fact} u (flat_map (line_facts now) (quarters_of b)) (IsMetBy b id ∷ [])) f) (sym e)
          (Contains-flat_map (line_facts now) (quarters_of b) q f m (block_on now q f o)))

      -- on a block that stays the one comes
      add_here : (b : Block) → Contains (finset.items cover) b → meets s (square b) ≡ true → cut b ≡ false
          → Contains (facts_added t segs id s met) (IsMetBy b id)
      add_here b c e f =
          add_on b (IsMetBy b id) c e
          (subst (λ (u : Bool). Contains (cond {A = List Fact} u (flat_map (line_facts now) (quarters_of b)) (IsMetBy b id ∷ [])) (IsMetBy b id))
          (sym f) (Contains-here (IsMetBy b id) []))

      remove_cut : (b : Block) (f : Fact) → Contains (finset.items cover) b → cut b ≡ true → IsOnBlock segs b f → Contains (facts_removed t segs id s met) f
      remove_cut b f c e o =
          remove_on b f c (cut_says t now s b e).met
          (subst (λ (u : Bool). Contains (cond {A = List Fact} u (line_facts segs b) (none_on segs b)) f) (sym e) (block_on segs b f o))

      remove_none : (b : Block) → Contains (finset.items cover) b → meets s (square b) ≡ true → cut b ≡ false → ((q : ℕ) → IsMet segs b q → ⊥)
          → Contains (facts_removed t segs id s met) (IsMetByNone b)
      remove_none b c e f none =
          remove_on b (IsMetByNone b) c e
          (subst (λ (u : Bool). Contains (cond {A = List Fact} u (line_facts segs b) (none_on segs b)) (IsMetByNone b)) (sym f) (none_on_has segs b none))

      -- ---- a fact that comes is new
      not_on_cover : (q : Block) (f : Fact) → (Contains (finset.items cover) q → ⊥) → IsOnBlock now q f → IsLineFact t segs cover f → ⊥
      not_on_cover q (IsMetBy b i) away o l = away (subst (Contains (finset.items cover)) (sym o.0) l.0)
      not_on_cover q (IsMetByNone b) away o l = away (subst (Contains (finset.items cover)) (sym o.0) l.0)
      not_on_cover q (IsOfKind kind number) away o l = absurd o
      not_on_cover q (IsSegment i r) away o l = absurd o
      not_on_cover q (HasColour b colour) away o l = absurd o
      not_on_cover q (HoldsPoint b p label) away o l = absurd o
      not_on_cover q (HoldsNoPoint b) away o l = absurd o

      coming_on : (b : Block) (f : Fact) → Contains (finset.items cover) b → meets s (square b) ≡ true → (u : Bool) → cut b ≡ u
          → Contains (cond {A = List Fact} u (flat_map (line_facts now) (quarters_of b)) (IsMetBy b id ∷ [])) f → IsAlone new_facts old_facts f
      coming_on b f c e true is m =
          let q = Contains-flat_map_from (line_facts now) (quarters_of b) f m in
          let o = on_block now q.0 f q.2 in (
            on_cover n t now later q.0 f (after_quarter n t now cover s h b q.0 c is q.1) o,
            λ k. not_on_cover q.0 f (quarter_new n t now cover s h b q.0 c is q.1) o (says n t segs cover f k),
          )
      coming_on b f c e false is m =
          let same = ⊎_elim (λ w. w) (λ d. absurd (Contains-nil f d)) (Contains-cons_cases (IsMetBy b id) [] f m) in
          subst (IsAlone new_facts old_facts) same (
            said n t now later (IsMetBy b id) (after_stays n t now cover s h b c is, met_here b e),
            λ k. let l = says n t segs cover (IsMetBy b id) k in unlike id l.1.0 l.1.1 refl,
          )

      pub coming : (f : Fact) → Contains (facts_added t segs id s met) f → IsAlone new_facts old_facts f
      coming f c =
          ⊎_elim
          (λ e. subst (IsAlone new_facts old_facts) e (
            said n t now later (IsSegment id s) got_new,
            λ k. unlike id s (says n t segs cover (IsSegment id s) k) refl,
          ))
          (λ d.
          let b = Contains-flat_map_from (added_on t now id s) met f d in
          let a = among_from b.0 b.1 in
          coming_on b.0 f a.0 a.1 (cut b.0) refl b.2)
          (Contains-cons_cases (IsSegment id s) (flat_map (added_on t now id s) met) f c)

      -- ---- a new fact comes
      comes : (f : Fact) → IsLineFact t now later f → (IsLineFact t segs cover f → ⊥) → Contains (facts_added t segs id s met) f
      comes (IsOfKind kind number) l away = absurd (away l)
      comes (IsSegment i r) l away =
          ⊎_elim
          (λ e.
          let is = same_seg_value s r (sym got_new ∙ ap (finmap.get now) (sym e) ∙ l) in
          let pair : IsSegment id s ≡ IsSegment i r = λ j. IsSegment (sym e j) (is j) in
          subst (Contains (facts_added t segs id s met)) pair (Contains-here (IsSegment id s) (flat_map (added_on t now id s) met)))
          (λ d. absurd (away (sym (got_other i d) ∙ l))) (cases_eq i id)
      comes (IsMetBy b i) l away =
          ⊎_elim
          (λ w. add_quarter w.0 b (IsMetBy b i) w.1 w.2 w.3 (refl, l.1))
          (λ w.
          ⊎_elim
          (λ m. subst (λ (z : ℕ). Contains (facts_added t segs id s met) (IsMetBy b z)) (sym m.0) (add_here b w.0 m.1 w.1))
          (λ m. absurd (away (w.0, m))) (met_now b i l.1))
          (after_from n t now cover s h b l.0)
      comes (IsMetByNone b) l away =
          ⊎_elim
          (λ w. add_quarter w.0 b (IsMetByNone b) w.1 w.2 w.3 (refl, l.1))
          (λ w. absurd (away (w.0, λ i m. l.1 i (met_still b i m))))
          (after_from n t now cover s h b l.0)
      comes (HasColour b colour) l away = absurd l
      comes (HoldsPoint b p label) l away = absurd l
      comes (HoldsNoPoint b) l away = absurd l

      -- ---- a fact that goes is of the old layer alone
      not_later : (b : Block) (f : Fact) → (Contains (finset.items later) b → ⊥) → IsOnBlock segs b f → IsLineFact t now later f → ⊥
      not_later q (IsMetBy b i) away o l = away (subst (Contains (finset.items later)) (sym o.0) l.0)
      not_later q (IsMetByNone b) away o l = away (subst (Contains (finset.items later)) (sym o.0) l.0)
      not_later q (IsOfKind kind number) away o l = absurd o
      not_later q (IsSegment i r) away o l = absurd o
      not_later q (HasColour b colour) away o l = absurd o
      not_later q (HoldsPoint b p label) away o l = absurd o
      not_later q (HoldsNoPoint b) away o l = absurd o

      going_on : (b : Block) (f : Fact) → Contains (finset.items cover) b → meets s (square b) ≡ true → (u : Bool) → cut b ≡ u
          → Contains (cond {A = List Fact} u (line_facts segs b) (none_on segs b)) f → IsAlone old_facts new_facts f
      going_on b f c e true is m =
          let o = on_block segs b f m in (
            on_cover n t segs cover b f c o,
            λ k. not_later b f (cut_gone n t now cover s h b c is) o (says n t now later f k),
          )
      going_on b f c e false is m =
          let none = none_on_from segs b f m in
          subst (IsAlone old_facts new_facts) none.0 (
            said n t segs cover (IsMetByNone b) (c, none.1),
            λ k. let l = says n t now later (IsMetByNone b) k in l.1 id (met_here b e),
          )

      pub going : (f : Fact) → Contains (facts_removed t segs id s met) f → IsAlone old_facts new_facts f
      going f c =
          let b = Contains-flat_map_from (removed_on t segs now s) met f c in
          let a = among_from b.0 b.1 in
          going_on b.0 f a.0 a.1 (cut b.0) refl b.2

      -- ---- a fact of the old layer alone goes
      goes : (f : Fact) → IsLineFact t segs cover f → (IsLineFact t now later f → ⊥) → Contains (facts_removed t segs id s met) f
      goes (IsOfKind kind number) l away = absurd (away l)
      goes (IsSegment i r) l away = absurd (away (kept i r l))
      goes (IsMetBy b i) l away =
          ⊎_elim
          (λ is. remove_cut b (IsMetBy b i) l.0 is (refl, l.1))
          (λ no. absurd (away (after_stays n t now cover s h b l.0 no, met_still b i l.1)))
          (cases_Bool (cut b))
      goes (IsMetByNone b) l away =
          ⊎_elim
          (λ is. remove_cut b (IsMetByNone b) l.0 is (refl, l.1))
          (λ no.
          ⊎_elim
          (λ e. remove_none b l.0 e no l.1)
          (λ e. absurd (away (
            after_stays n t now cover s h b l.0 no,
            λ i m. ⊎_elim (λ w. both_ways (meets s (square b)) e w.1) (λ w. l.1 i w)
                (met_now b i m),
          )))
          (cases_Bool (meets s (square b))))
          (cases_Bool (cut b))
      goes (HasColour b colour) l away = absurd l
      goes (HoldsPoint b p label) l away = absurd l
      goes (HoldsNoPoint b) l away = absurd l

-- The facts that come and go with a segment, block by block.
pub add_law : AddLaw
add_law n t segs cover id s met h new list f =
    let k = cover_of n t segs cover h in
    let m = finmap.insert segs id s in
    let later' = after_add t m cover s in (
      (
        λ c. coming segs id s new n t cover k met list f c,
        λ w. comes segs id s new n t cover k met list f (says n t m later' f w.0) (λ l. w.1 (said n t segs cover f l)),
      ),
      (
        λ c. going segs id s new n t cover k met list f c,
        λ w. goes segs id s new n t cover k met list f (says n t segs cover f w.0) (λ l. w.1 (said n t m later' f l)),
      ),
    )
