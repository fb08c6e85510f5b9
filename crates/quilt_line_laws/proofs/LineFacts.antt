-- The facts of a line layer, by look-ups and membership.
use Rattle.std.proofs.Common.{◌≡◌, ◌↔◌, ◌⊎◌, ℕ, Bool, true, false, List, [], ◌∷◌, ◌++◌, map, filter, flat_map, length, eqb, eqb-true, eq-eqb, cond, Some, refl}
use Rattle.std.proofs.Common.{sym, ◌∙◌, subst, inl, inr, ⊎_elim, arith, Contains}
use Rattle.std.specs.FinMap as finmap
use Rattle.std.specs.FinMap.{nat_cmp-IsAntisymmetric}
use Rattle.std.specs.Ordering.{nat_cmp}
use Rattle.std.specs.Cmp.{nat_cmp_total}
use Rattle.std.proofs.lemmas.List.Sums.{length-filter}
use Rattle.std.proofs.lemmas.List.Elements.{Contains-append_left, Contains-append_right, Contains-append_cases}
use Rattle.quilt_types.specs.Sets as finset
use Rattle.quilt_types.specs.declared.plane.Block.{Block}
use Rattle.quilt_types.specs.declared.plane.Seg.{Seg}
use Rattle.quilt_types.specs.Layers.{Lines, SegMap, BlockSet}
use Rattle.quilt_types.specs.Segments.{square, meets}
use Rattle.quilt_types.specs.Quadtrees.{segs_meeting}
use Rattle.quilt_types.specs.Facts.{Fact, IsOfKind, HasColour, HoldsPoint, HoldsNoPoint, IsSegment, IsMetBy, IsMetByNone, or_none, line_facts, facts}
use Rattle.quilt_loc.proofs.Members.{Contains-nil, Contains-here, Contains-there, Contains-cons_cases, Contains-map, Contains-map_from, Contains-filter}
use Rattle.quilt_loc.proofs.Members.{Contains-filter_from, Contains-flat_map, Contains-flat_map_from}
use Rattle.quilt_spell.proofs.Maps.{entry_from_get, get_from_entry}
use Rattle.quilt_line_laws.specs.Lines.{IsMet, IsLineFact, IsOnBlock, none_on}
use Rattle.quilt_types.proofs.Lists.{nothing_in}
use Rattle.quilt_spell.proofs.facts.FactMembers.{or_none_some, or_none_none}

-- ---- entries
pub entry : (segs : SegMap) (id : ℕ) (s : Seg) → finmap.get segs id ≡ Some s → Contains (finmap.entries segs) (id, s)
entry segs id s h = entry_from_get nat_cmp nat_cmp_total nat_cmp-IsAntisymmetric segs id s h

pub got : (segs : SegMap) (e : ℕ × Seg) → Contains (finmap.entries segs) e → finmap.get segs e.0 ≡ Some e.1
got segs e c = get_from_entry nat_cmp nat_cmp_total nat_cmp-IsAntisymmetric segs e c

abbrev pub meeting : Block → ℕ × Seg → Bool
meeting b e = meets e.1 (square b)

abbrev pub met_by : Block → ℕ × Seg → Fact
met_by b e = IsMetBy b e.0

-- ---- the list that `or_none` gives
or_none_from : (none : Fact) (fs : List Fact) (f : Fact) → Contains (or_none none fs) f → ((none ≡ f) × (fs ≡ [])) ⊎ Contains fs f
or_none_from none [] f c = ⊎_elim (λ e. inl (e, refl)) (λ d. absurd (Contains-nil f d)) (Contains-cons_cases none [] f c)
or_none_from none (g ∷ fs) f c = inr c

-- ---- the facts on one block
module _ (segs : SegMap) (b : Block) where
  mine : List (ℕ × Seg)
  mine = filter (meeting b) (finmap.entries segs)

  met_member : (id : ℕ) → IsMet segs b id → Contains (map (met_by b) (filter (meeting b) (finmap.entries segs))) (IsMetBy b id)
  met_member id m =
      Contains-map (met_by b) (filter (meeting b) (finmap.entries segs)) (id, m.0)
      (Contains-filter (meeting b) (finmap.entries segs) (id, m.0) (entry segs id m.0 m.1) m.2)

  met_from : (e : ℕ × Seg) → Contains (filter (meeting b) (finmap.entries segs)) e → IsMet segs b e.0
  met_from e c =
      let k = Contains-filter_from (meeting b) (finmap.entries segs) e c in
      (e.1, got segs e k.0, k.1)

  pub on_block : (f : Fact) → Contains (line_facts segs b) f → IsOnBlock segs b f
  on_block f c =
      ⊎_elim
      (λ no. subst (IsOnBlock segs b) no.0
      (refl, λ id m. nothing_in (map (met_by b) (filter (meeting b) (finmap.entries segs))) no.1 (IsMetBy b id) (met_member id m)))
      (λ has.
      let e = Contains-map_from (met_by b) (filter (meeting b) (finmap.entries segs)) f has in
      subst (IsOnBlock segs b) e.2 (refl, met_from e.0 e.1))
      (or_none_from (IsMetByNone b) (map (met_by b) (filter (meeting b) (finmap.entries segs))) f c)

  pub block_on : (f : Fact) → IsOnBlock segs b f → Contains (line_facts segs b) f
  block_on (IsMetBy c id) h =
      subst (λ (z : Block). Contains (line_facts segs b) (IsMetBy z id)) h.0
      (or_none_some (IsMetByNone b) (map (met_by b) (filter (meeting b) (finmap.entries segs))) (IsMetBy b id) (met_member id h.1))
  block_on (IsMetByNone c) h =
      subst (λ (z : Block). Contains (line_facts segs b) (IsMetByNone z)) h.0
      (or_none_none (IsMetByNone b) (map (met_by b) (filter (meeting b) (finmap.entries segs)))
      (λ f c. let e = Contains-map_from (met_by b) (filter (meeting b) (finmap.entries segs)) f c in h.1 e.0.0 (met_from e.0 e.1)))
  block_on (IsOfKind kind number) h = absurd h
  block_on (IsSegment id s) h = absurd h
  block_on (HasColour c colour) h = absurd h
  block_on (HoldsPoint c p label) h = absurd h
  block_on (HoldsNoPoint c) h = absurd h

  -- no segment meets the block exactly where the count is 0
  no_members : {X : Type 0} (xs : List X) → length xs ≡ 0 → (x : X) → Contains xs x → ⊥
  no_members xs e x c = let lt = c.1 in omega arith

  empty_list : {X : Type 0} (xs : List X) → ((x : X) → Contains xs x → ⊥) → length xs ≡ 0
  empty_list [] h = refl
  empty_list (x ∷ xs) h = absurd (h x (Contains-here x xs))

  pub count_none : segs_meeting segs b ≡ 0 → (id : ℕ) → IsMet segs b id → ⊥
  count_none e id m =
      no_members (filter (meeting b) (finmap.entries segs)) (length-filter (meeting b) (finmap.entries segs) ∙ e) (id, m.0)
      (Contains-filter (meeting b) (finmap.entries segs) (id, m.0) (entry segs id m.0 m.1) m.2)

  pub none_count : ((id : ℕ) → IsMet segs b id → ⊥) → segs_meeting segs b ≡ 0
  none_count h =
      sym (length-filter (meeting b) (finmap.entries segs))
      ∙ empty_list (filter (meeting b) (finmap.entries segs)) (λ e c. h e.0 (met_from e c))

  none_by : (t : Bool) (f : Fact) → eqb (segs_meeting segs b) 0 ≡ t → Contains (cond {A = List Fact} t (IsMetByNone b ∷ []) []) f
      → (IsMetByNone b ≡ f) × ((id : ℕ) → IsMet segs b id → ⊥)
  none_by true f e c =
      ⊎_elim (λ is. (is, count_none (eqb-true _ _ e))) (λ d. absurd (Contains-nil f d)) (Contains-cons_cases (IsMetByNone b) [] f c)
  none_by false f e c = absurd (Contains-nil f c)

  pub none_on_from : (f : Fact) → Contains (none_on segs b) f → (IsMetByNone b ≡ f) × ((id : ℕ) → IsMet segs b id → ⊥)
  none_on_from f c = none_by (eqb (segs_meeting segs b) 0) f refl c

  pub none_on_has : ((id : ℕ) → IsMet segs b id → ⊥) → Contains (none_on segs b) (IsMetByNone b)
  none_on_has h =
      subst (λ (t : Bool). Contains (cond {A = List Fact} t (IsMetByNone b ∷ []) []) (IsMetByNone b)) (sym (eq-eqb _ _ (none_count h)))
      (Contains-here (IsMetByNone b) [])

-- ---- the facts of the layer
module _ (n t : ℕ) (segs : SegMap) (cover : BlockSet) where
  abbrev segment : ℕ × Seg → Fact
  segment e = IsSegment e.0 e.1

  in_layer : (b : Block) (f : Fact) → Contains (finset.items cover) b → IsOnBlock segs b f → IsLineFact t segs cover f
  in_layer b (IsMetBy c id) m h = (subst (Contains (finset.items cover)) h.0 m, subst (λ (z : Block). IsMet segs z id) h.0 h.1)
  in_layer b (IsMetByNone c) m h = (subst (Contains (finset.items cover)) h.0 m, subst (λ (z : Block). (id : ℕ) → IsMet segs z id → ⊥) h.0 h.1)
  in_layer b (IsOfKind kind number) m h = absurd h
  in_layer b (IsSegment id s) m h = absurd h
  in_layer b (HasColour c colour) m h = absurd h
  in_layer b (HoldsPoint c p label) m h = absurd h
  in_layer b (HoldsNoPoint c) m h = absurd h

  pub says : (f : Fact) → Contains (facts n (Lines t segs cover)) f → IsLineFact t segs cover f
  says f c =
      ⊎_elim
      (λ e. subst (IsLineFact t segs cover) e (refl, refl))
      (λ d.
      ⊎_elim
      (λ s. let m = Contains-map_from segment (finmap.entries segs) f s in subst (IsLineFact t segs cover) m.2 (got segs m.0 m.1))
      (λ met. let m = Contains-flat_map_from (line_facts segs) (finset.items cover) f met in in_layer m.0 f m.1 (on_block segs m.0 f m.2))
      (Contains-append_cases (map segment (finmap.entries segs)) (flat_map (line_facts segs) (finset.items cover)) f d))
      (Contains-cons_cases (IsOfKind 3 t) (map segment (finmap.entries segs) ++ flat_map (line_facts segs) (finset.items cover)) f c)

  behind : (f : Fact) → Contains (map segment (finmap.entries segs) ++ flat_map (line_facts segs) (finset.items cover)) f
      → Contains (facts n (Lines t segs cover)) f
  behind f c = Contains-there (IsOfKind 3 t) (map segment (finmap.entries segs) ++ flat_map (line_facts segs) (finset.items cover)) f c

  pub on_cover : (b : Block) (f : Fact) → Contains (finset.items cover) b → IsOnBlock segs b f → Contains (facts n (Lines t segs cover)) f
  on_cover b f m h =
      behind f
      (Contains-append_right (map segment (finmap.entries segs)) (flat_map (line_facts segs) (finset.items cover)) f
      (Contains-flat_map (line_facts segs) (finset.items cover) b f m (block_on segs b f h)))

  pub said : (f : Fact) → IsLineFact t segs cover f → Contains (facts n (Lines t segs cover)) f
  said (IsOfKind kind number) h =
      let e : IsOfKind 3 t ≡ IsOfKind kind number = λ i. IsOfKind (sym h.0 i) (sym h.1 i) in
      subst (Contains (facts n (Lines t segs cover))) e
      (Contains-here (IsOfKind 3 t) (map segment (finmap.entries segs) ++ flat_map (line_facts segs) (finset.items cover)))
  said (IsSegment id s) h =
      behind (IsSegment id s)
      (Contains-append_left (map segment (finmap.entries segs)) (flat_map (line_facts segs) (finset.items cover)) (IsSegment id s)
      (Contains-map segment (finmap.entries segs) (id, s) (entry segs id s h)))
  said (IsMetBy b id) h = on_cover b (IsMetBy b id) h.0 (refl, h.1)
  said (IsMetByNone b) h = on_cover b (IsMetByNone b) h.0 (refl, h.1)
  said (HasColour b colour) h = absurd h
  said (HoldsPoint b p label) h = absurd h
  said (HoldsNoPoint b) h = absurd h

  -- Exactly these are the facts of a line layer.
  pub facts_are : (f : Fact) → Contains (facts n (Lines t segs cover)) f ↔ IsLineFact t segs cover f
  facts_are f = (λ c. says f c, λ h. said f h)
