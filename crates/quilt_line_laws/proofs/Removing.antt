-- What a removal changes.
use Rattle.std.proofs.Common.{◌≡◌, ◌↔◌, ◌⊎◌, ℕ, true, List, ◌++◌, map, flat_map, Some, refl, sym, ap, ◌∙◌, subst, inl, inr, ⊎_elim, Contains}
use Rattle.std.specs.FinMap as finmap
use Rattle.std.specs.FinMap.{nat_cmp-IsAntisymmetric}
use Rattle.std.specs.Ordering.{nat_cmp}
use Rattle.std.specs.Cmp.{nat_cmp_total}
use Rattle.std.proofs.lemmas.Bool.{cases_Bool, both_ways, cases_eq}
use Rattle.std.proofs.lemmas.List.Elements.{Contains-append_left, Contains-append_right, Contains-append_cases}
use Rattle.quilt_types.specs.Sets as finset
use Rattle.quilt_types.specs.declared.plane.Block.{Block}
use Rattle.quilt_types.specs.declared.plane.Seg.{Seg}
use Rattle.quilt_types.specs.Plane.{whole}
use Rattle.quilt_types.specs.Layers.{Lines, SegMap, BlockSet}
use Rattle.quilt_types.specs.Segments.{square, meets}
use Rattle.quilt_types.specs.Quadtrees.{after_remove}
use Rattle.quilt_types.specs.Facts.{Fact, IsOfKind, HasColour, HoldsPoint, HoldsNoPoint, IsSegment, IsMetBy, IsMetByNone, line_facts, facts}
use Rattle.quilt_loc.proofs.Members.{Contains-here, Contains-there, Contains-cons_cases, Contains-map, Contains-map_from, Contains-flat_map}
use Rattle.quilt_loc.proofs.Members.{Contains-flat_map_from}
use Rattle.quilt_spell.proofs.Maps.{get_removed, get_kept}
use Rattle.quilt_loc.proofs.PlaneOrders.{block_total}
use Rattle.quilt_spell.proofs.facts.FactKeys.{block_same}
use Rattle.quilt_line_laws.proofs.SetLaws.{contains_is}
use Rattle.quilt_line_laws.proofs.Merges.{IsBlockCover}
use Rattle.quilt_line_laws.specs.Lines.{IsMet, IsLineFact, IsOnBlock, none_on, IsAlone}
use Rattle.quilt_line_laws.specs.Merging.{IsChange, coming_in, going_in, staying_in}
use Rattle.quilt_line_laws.specs.Removing.{facts_back, facts_gone, RemoveLaw}
use Rattle.quilt_line_laws.proofs.LineFacts.{on_block, block_on, none_on_from, none_on_has, says, said, on_cover}
use Rattle.quilt_line_laws.proofs.Adding.{cover_of, same_seg_value, no_seg}
use Rattle.quilt_line_laws.proofs.Descent.{coming_are, going_are, staying_are}

-- a block is one of the set or not
in_or_not : (set : BlockSet) (b : Block) → Contains (finset.items set) b ⊎ (Contains (finset.items set) b → ⊥)
in_or_not set b =
    ⊎_elim (λ y. inl ((contains_is block_total block_same set b).0 y))
    (λ f. inr (λ c. both_ways (finset.contains set b) f ((contains_is block_total block_same set b).1 c)))
    (cases_Bool (finset.contains set b))

module _ (segs : SegMap) (id : ℕ) (s : Seg) (had : finmap.get segs id ≡ Some s) where
  abbrev now : SegMap
  now = finmap.remove segs id

  gone : (r : Seg) → finmap.get now id ≡ Some r → ⊥
  gone r g = no_seg r (sym (get_removed nat_cmp nat_cmp_total nat_cmp-IsAntisymmetric segs id) ∙ g)

  got_other : (q : ℕ) → (q ≡ id → ⊥) → finmap.get now q ≡ finmap.get segs q
  got_other q d = get_kept nat_cmp nat_cmp_total nat_cmp-IsAntisymmetric segs id q d

  not_it : (q : ℕ) (r : Seg) → finmap.get now q ≡ Some r → q ≡ id → ⊥
  not_it q r g e = gone r (ap (finmap.get now) (sym e) ∙ g)

  was : (q : ℕ) (r : Seg) → finmap.get now q ≡ Some r → finmap.get segs q ≡ Some r
  was q r g = sym (got_other q (not_it q r g)) ∙ g

  pub met_before : (b : Block) (q : ℕ) → IsMet now b q → IsMet segs b q
  met_before b q m = (m.0, was q m.0 m.1, m.2)

  met_after : (b : Block) (q : ℕ) → IsMet segs b q → ((q ≡ id) × (meets s (square b) ≡ true)) ⊎ IsMet now b q
  met_after b q m =
      ⊎_elim
      (λ e.
      let is = same_seg_value s m.0 (sym had ∙ ap (finmap.get segs) (sym e) ∙ m.1) in
      inl (e, subst (λ (z : Seg). meets z (square b) ≡ true) (sym is) m.2))
      (λ d. inr (m.0, got_other q d ∙ m.1, m.2)) (cases_eq q id)

  met_here : (b : Block) → meets s (square b) ≡ true → IsMet segs b id
  met_here b e = (s, had, e)

  -- whatever the blocks become
  module _ (n t : ℕ) (cover later : BlockSet) (coming going staying : List Block) (change : IsChange cover later s coming going staying) where
    abbrev old_facts : List Fact
    old_facts = facts n (Lines t segs cover)

    abbrev new_facts : List Fact
    new_facts = facts n (Lines t now later)

    abbrev back : List Fact
    back = facts_back segs id coming staying

    abbrev away : List Fact
    away = facts_gone segs id s going staying

    abbrev lost_meeting : Block → Fact
    lost_meeting b = IsMetBy b id

    off : (set : BlockSet) (m : SegMap) (r : SegMap) (q : Block) (f : Fact) → (Contains (finset.items set) q → ⊥) → IsOnBlock m q f → IsLineFact t r set f → ⊥
    off set m r q (IsMetBy b i) out o l = out (subst (Contains (finset.items set)) (sym o.0) l.0)
    off set m r q (IsMetByNone b) out o l = out (subst (Contains (finset.items set)) (sym o.0) l.0)
    off set m r q (IsOfKind kind number) out o l = absurd o
    off set m r q (IsSegment i v) out o l = absurd o
    off set m r q (HasColour b colour) out o l = absurd o
    off set m r q (HoldsPoint b p label) out o l = absurd o
    off set m r q (HoldsNoPoint b) out o l = absurd o

    -- ---- what comes
    returning : (f : Fact) → Contains back f → IsAlone new_facts old_facts f
    returning f c =
        ⊎_elim
        (λ d.
        let b = Contains-flat_map_from (line_facts now) coming f d in
        let w = (change.come b.0).0 b.1 in
        let o = on_block now b.0 f b.2 in
        (on_cover n t now later b.0 f w.0 o, λ k. off cover now segs b.0 f w.1 o (says n t segs cover f k)))
        (λ d.
        let b = Contains-flat_map_from (none_on now) staying f d in
        let w = (change.stay b.0).0 b.1 in
        let none = none_on_from now b.0 f b.2 in
        subst (IsAlone new_facts old_facts) none.0 (
          said n t now later (IsMetByNone b.0) (w.1, none.1),
          λ k. let l = says n t segs cover (IsMetByNone b.0) k in l.1 id (met_here b.0 w.2),
        ))
        (Contains-append_cases (flat_map (line_facts now) coming) (flat_map (none_on now) staying) f c)

    back_on : (b : Block) (f : Fact) → Contains coming b → IsOnBlock now b f → Contains back f
    back_on b f c o =
        Contains-append_left (flat_map (line_facts now) coming) (flat_map (none_on now) staying) f
        (Contains-flat_map (line_facts now) coming b f c (block_on now b f o))

    returns : (f : Fact) → IsLineFact t now later f → (IsLineFact t segs cover f → ⊥) → Contains back f
    returns (IsOfKind kind number) l out = absurd (out l)
    returns (IsSegment i r) l out = absurd (out (was i r l))
    returns (IsMetBy b i) l out =
        ⊎_elim
        (λ c. absurd (out (c, met_before b i l.1)))
        (λ d. back_on b (IsMetBy b i) ((change.come b).1 (l.0, d)) (refl, l.1)) (in_or_not cover b)
    returns (IsMetByNone b) l out =
        ⊎_elim
        (λ c.
        ⊎_elim
        (λ e.
        Contains-append_right (flat_map (line_facts now) coming) (flat_map (none_on now) staying) (IsMetByNone b)
        (Contains-flat_map (none_on now) staying b (IsMetByNone b) ((change.stay b).1 (c, l.0, e)) (none_on_has now b l.1)))
        (λ e. absurd (out (c, λ i m. ⊎_elim (λ w. both_ways (meets s (square b)) e w.1) (λ w. l.1 i w) (met_after b i m))))
        (cases_Bool (meets s (square b))))
        (λ d. back_on b (IsMetByNone b) ((change.come b).1 (l.0, d)) (refl, l.1)) (in_or_not cover b)
    returns (HasColour b colour) l out = absurd l
    returns (HoldsPoint b p label) l out = absurd l
    returns (HoldsNoPoint b) l out = absurd l

    -- ---- what goes
    leaving : (f : Fact) → Contains away f → IsAlone old_facts new_facts f
    leaving f c =
        ⊎_elim
        (λ e. subst (IsAlone old_facts new_facts) e (
          said n t segs cover (IsSegment id s) had,
          λ k. gone s (says n t now later (IsSegment id s) k),
        ))
        (λ d.
        ⊎_elim
        (λ m.
        let b = Contains-flat_map_from (line_facts segs) going f m in
        let w = (change.go b.0).0 b.1 in
        let o = on_block segs b.0 f b.2 in
        (on_cover n t segs cover b.0 f w.0 o, λ k. off later segs now b.0 f w.1 o (says n t now later f k)))
        (λ m.
        let b = Contains-map_from lost_meeting staying f m in
        let w = (change.stay b.0).0 b.1 in
        subst (IsAlone old_facts new_facts) b.2 (
          said n t segs cover (IsMetBy b.0 id) (w.0, met_here b.0 w.2),
          λ k. let l = says n t now later (IsMetBy b.0 id) k in gone l.1.0 l.1.1,
        ))
        (Contains-append_cases (flat_map (line_facts segs) going) (map lost_meeting staying) f d))
        (Contains-cons_cases (IsSegment id s) (flat_map (line_facts segs) going ++ map lost_meeting staying) f c)

    away_behind : (f : Fact) → Contains (flat_map (line_facts segs) going ++ map lost_meeting staying) f → Contains away f
    away_behind f c = Contains-there (IsSegment id s) (flat_map (line_facts segs) going ++ map lost_meeting staying) f c

    away_on : (b : Block) (f : Fact) → Contains going b → IsOnBlock segs b f → Contains away f
    away_on b f c o =
        away_behind f
        (Contains-append_left (flat_map (line_facts segs) going) (map lost_meeting staying) f
        (Contains-flat_map (line_facts segs) going b f c (block_on segs b f o)))

    leaves : (f : Fact) → IsLineFact t segs cover f → (IsLineFact t now later f → ⊥) → Contains away f
    leaves (IsOfKind kind number) l out = absurd (out l)
    leaves (IsSegment i r) l out =
        ⊎_elim
        (λ e.
        let is = same_seg_value s r (sym had ∙ ap (finmap.get segs) (sym e) ∙ l) in
        let pair : IsSegment id s ≡ IsSegment i r = λ j. IsSegment (sym e j) (is j) in
        subst (Contains away) pair (Contains-here (IsSegment id s) (flat_map (line_facts segs) going ++ map lost_meeting staying)))
        (λ d. absurd (out (got_other i d ∙ l))) (cases_eq i id)
    leaves (IsMetBy b i) l out =
        ⊎_elim
        (λ c.
        ⊎_elim
        (λ w.
        let m : Contains away (IsMetBy b id) =
        away_behind (IsMetBy b id)
        (Contains-append_right (flat_map (line_facts segs) going) (map lost_meeting staying) (IsMetBy b id)
        (Contains-map lost_meeting staying b ((change.stay b).1 (l.0, c, w.1)))) in
        subst (λ (z : ℕ). Contains away (IsMetBy b z)) (sym w.0) m)
        (λ w. absurd (out (c, w)))
        (met_after b i l.1))
        (λ d. away_on b (IsMetBy b i) ((change.go b).1 (l.0, d)) (refl, l.1)) (in_or_not later b)
    leaves (IsMetByNone b) l out =
        ⊎_elim
        (λ c. absurd (out (c, λ i m. l.1 i (met_before b i m))))
        (λ d. away_on b (IsMetByNone b) ((change.go b).1 (l.0, d)) (refl, l.1)) (in_or_not later b)
    leaves (HasColour b colour) l out = absurd l
    leaves (HoldsPoint b p label) l out = absurd l
    leaves (HoldsNoPoint b) l out = absurd l

    -- The facts that come and go with any change of the blocks of which the lists tell what came, went and stayed.
    pub change_law : (f : Fact) → (Contains back f ↔ IsAlone new_facts old_facts f) × (Contains away f ↔ IsAlone old_facts new_facts f)
    change_law f = (
      (λ c. returning f c, λ w. returns f (says n t now later f w.0) (λ l. w.1 (said n t segs cover f l))),
      (λ c. leaving f c, λ w. leaves f (says n t segs cover f w.0) (λ l. w.1 (said n t now later f l))),
    )

-- The descent from the whole square gives what comes and goes.
pub descent_change : (n t : ℕ) (now : SegMap) (cover : BlockSet) (s : Seg) → IsBlockCover n cover
    → IsChange cover (after_remove n t now cover s) s (coming_in t now cover s n (whole n)) (going_in t now cover s n (whole n))
    (staying_in t now cover s n (whole n))
descent_change n t now cover s h = record {
  come = coming_are n t now cover s h;
  go = going_are n t now cover s h;
  stay = staying_are n t now cover s h;
}

pub remove_law : RemoveLaw
remove_law n t segs cover id s h had f =
    let m = finmap.remove segs id in
    change_law segs id s had n t cover (after_remove n t m cover s) (coming_in t m cover s n (whole n)) (going_in t m cover s n (whole n))
    (staying_in t m cover s n (whole n))
    (descent_change n t m cover s (cover_of n t segs cover h)) f
