-- What a segment that comes changes on each block that it meets.
use Rattle.std.proofs.Common.{◌≡◌, ◌↔◌, ℕ, ◌+◌, ◌<◌, ◌≤◌, Bool, true, false, ◌&&◌, not, take, get_or, cond}
use Rattle.std.proofs.Common.{nat_lt, List, [], ◌∷◌, ◌++◌, length, map, filter, flat_map, None, refl, sym, ◌∙◌, ap}
use Rattle.std.proofs.Common.{subst, ◌⊎◌, inl, inr, ⊎_elim, arith, Contains, eqb, lt-ltb, ltb-true, ◌^◌, length-append, append_assoc}
use Rattle.std.specs.FinMap as finmap
use Rattle.std.specs.FinMap.{nat_cmp-IsAntisymmetric}
use Rattle.std.specs.Ordering.{nat_cmp}
use Rattle.std.specs.Cmp.{nat_cmp_total}
use Rattle.std.specs.List.Sorted.{IsPermutation}
use Rattle.std.proofs.lemmas.Bool.{and_from, and_parts, and_right, cases_eq}
use Rattle.std.proofs.lemmas.List.{append-nil, map-append, take_all}
use Rattle.std.proofs.lemmas.Grind.{flat_map-append}
use Rattle.std.proofs.lemmas.List.Sums.{length-filter}
use Rattle.std.proofs.lemmas.List.Elements.{Contains-append_left, Contains-append_right, Contains-append_cases}
use Rattle.std.proofs.lemmas.List.Sorted.{IsPermutation-refl, IsPermutation-trans, IsPermutation-append_left}
use Rattle.std.proofs.lemmas.List.Sorted.{IsPermutation-append_right, IsPermutation-map, length_permutation}
use Rattle.quilt_types.specs.Sets as finset
use Rattle.quilt_types.specs.declared.plane.Block.{Block}
use Rattle.quilt_types.specs.declared.plane.Seg.{Seg}
use Rattle.quilt_types.specs.Plane.{side, quarters_of, whole, IsBlock}
use Rattle.quilt_types.specs.Layers.{Lines, SegMap, BlockSet, IsLineMap, is_in_square}
use Rattle.quilt_types.specs.Segments.{square, meets}
use Rattle.quilt_types.specs.Quadtrees.{is_split, segs_meeting, after_add}
use Rattle.quilt_types.specs.Facts.{Fact, IsSegment, IsMetBy, IsMetByNone, or_none, line_facts, facts}
use Rattle.quilt_loc.proofs.Members.{Contains-nil, Contains-here, Contains-there, Contains-cons_cases, Contains-filter, Contains-filter_from}
use Rattle.quilt_loc.proofs.Quartered.{quarters_are}
use Rattle.quilt_record.specs.declared.edits.Edits.{Edits}
use Rattle.quilt_record.specs.declared.record.Record.{Record}
use Rattle.quilt_spell.specs.Apart.{Apart}
use Rattle.quilt_spell.proofs.Lists.{Apart-append, Apart-filter, same_length}
use Rattle.quilt_spell.proofs.Maps.{get_inserted, get_others}
use Rattle.quilt_edits.specs.Edits.{CanBeEdits}
use Rattle.quilt_edits.proofs.Lists.{take_next}
use Rattle.quilt_line_laws.specs.Lines.{none_on, added_on, removed_on, IsAlone, IsMetList, facts_added, facts_removed, with_seg}
use Rattle.quilt_line_laws.specs.Merging.{met_in}
use Rattle.quilt_line_laws.proofs.Adding.{same_seg_value, no_seg, add_law}
use Rattle.quilt_line_laws.proofs.FactsOnce.{add_once_law}
use Rattle.quilt_line_laws.proofs.Lawful.{added_law}
use Rattle.quilt_line_laws.proofs.Visiting.{visit_law}
use Rattle.quilt_line_laws.proofs.LineFacts.{entry, got}
use Rattle.quilt_line_laws.proofs.Meeting.{meets_within}
use Rattle.quilt_line_laws.proofs.NoneTwice.{entries_apart}
use Rattle.quilt_near.specs.Lines.{meeting}
use Rattle.quilt_lines.specs.Layers.{fact_record}
use Rattle.quilt_lines.specs.Reads.{ids_of}
use Rattle.quilt_lines.specs.Adding.{facts_by, ids_meeting, Follow, IsAdded}
use Rattle.quilt_lines.specs.Plans.{IsLinePlan}
use Rattle.quilt_lines.proofs.plans.Changes.{can, can_permuted, plan}
use Rattle.quilt_lines.proofs.Permutations.{permutation_from}

-- ---- lists
map_twice : {X Y Z : Type 0} (f : Y → Z) (g : X → Y) (xs : List X) → map f (map g xs) ≡ map (λ x. f (g x)) xs
map_twice f g [] = refl
map_twice f g (x ∷ xs) = ap (λ l. f (g x) ∷ l) (map_twice f g xs)

length_map : {X Y : Type 0} (f : X → Y) (xs : List X) → length (map f xs) ≡ length xs
length_map f [] = refl
length_map f (x ∷ xs) = let e = length_map f xs in omega arith

or_none_permuted : (none : Fact) (xs ys : List Fact) → IsPermutation xs ys → IsPermutation (or_none none xs) (or_none none ys)
or_none_permuted none [] [] p = IsPermutation-refl (none ∷ [])
or_none_permuted none [] (y ∷ ys) p = absurd (let e = length_permutation [] (y ∷ ys) p in omega arith)
or_none_permuted none (x ∷ xs) [] p = absurd (let e = length_permutation (x ∷ xs) [] p in omega arith)
or_none_permuted none (x ∷ xs) (y ∷ ys) p = p

flat_permuted : {X Y : Type 0} (f g : X → List Y) (xs : List X) → ((x : X) → Contains xs x → IsPermutation (f x) (g x))
    → IsPermutation (flat_map f xs) (flat_map g xs)
flat_permuted f g [] h = IsPermutation-refl []
flat_permuted f g (x ∷ xs) h =
    IsPermutation-trans (f x ++ flat_map f xs) (g x ++ flat_map f xs) (g x ++ flat_map g xs)
    (IsPermutation-append_left (flat_map f xs) (f x) (g x) (h x (Contains-here x xs)))
    (IsPermutation-append_right (g x) (flat_map f xs) (flat_map g xs) (flat_permuted f g xs (λ y c. h y (Contains-there x xs y c))))

-- ---- segments with one more
module _ (segs : SegMap) (id : ℕ) (s : Seg) (new : finmap.get segs id ≡ None) where
  abbrev now : SegMap
  now = finmap.insert segs id s

  entry_new : Contains (finmap.entries (finmap.insert segs id s)) (id, s)
  entry_new = entry (finmap.insert segs id s) id s (get_inserted nat_cmp nat_cmp_total nat_cmp-IsAntisymmetric segs id s)

  entry_kept : (e : ℕ × Seg) → Contains (finmap.entries segs) e → Contains (finmap.entries (finmap.insert segs id s)) e
  entry_kept e c =
      let g = got segs e c in
      entry (finmap.insert segs id s) e.0 e.1 (get_others nat_cmp nat_cmp_total nat_cmp-IsAntisymmetric segs id s e.0
      (λ same. no_seg e.1 (sym new ∙ ap (finmap.get segs) (sym same) ∙ g)) ∙ g)

  entry_cases : (e : ℕ × Seg) → Contains (finmap.entries (finmap.insert segs id s)) e → Contains (finmap.entries segs) e ⊎ ((id, s) ≡ e)
  entry_cases e c =
      let g = got (finmap.insert segs id s) e c in
      ⊎_elim
      (λ same.
      let is = same_seg_value s e.1 (sym (get_inserted nat_cmp nat_cmp_total nat_cmp-IsAntisymmetric segs id s)
      ∙ ap (finmap.get (finmap.insert segs id s)) (sym same) ∙ g) in
      inr (λ i. (sym same i, is i)))
      (λ d. inl (entry segs e.0 e.1 (sym (get_others nat_cmp nat_cmp_total nat_cmp-IsAntisymmetric segs id s e.0 d) ∙ g))) (cases_eq e.0 id)

  -- those that meet a block before, and the new one
  abbrev listed : Block → List (ℕ × Seg)
  listed b = meeting segs b ++ (id, s) ∷ []

  listed_apart : (b : Block) → Apart (listed b)
  listed_apart b =
      Apart-append (meeting segs b) ((id, s) ∷ []) (Apart-filter (λ e. meets e.1 (square b)) (finmap.entries segs) (entries_apart segs))
      (λ c. Contains-nil (id, s) c, tt)
      (λ e c d.
      let g = got segs e (Contains-filter_from (λ e. meets e.1 (square b)) (finmap.entries segs) e c).0 in
      ⊎_elim (λ same. no_seg e.1 (sym new ∙ ap (λ (z : ℕ × Seg). finmap.get segs z.0) same ∙ g)) (λ no. Contains-nil e no) (Contains-cons_cases (id, s) [] e d))

  to_listed : (b : Block) (e : ℕ × Seg) → Contains (finmap.entries (finmap.insert segs id s)) e → meets e.1 (square b) ≡ true → Contains (listed b) e
  to_listed b e c m =
      ⊎_elim (λ d. Contains-append_left (meeting segs b) ((id, s) ∷ []) e (Contains-filter (λ e. meets e.1 (square b)) (finmap.entries segs) e d m))
      (λ same. subst (Contains (listed b)) same (Contains-append_right (meeting segs b) ((id, s) ∷ []) (id, s) (Contains-here (id, s) []))) (entry_cases e c)

  from_listed : (b : Block) (e : ℕ × Seg) → Contains (listed b) e → Contains (finmap.entries (finmap.insert segs id s)) e
  from_listed b e c =
      ⊎_elim (λ d. entry_kept e (Contains-filter_from (λ e. meets e.1 (square b)) (finmap.entries segs) e d).0)
      (λ d. ⊎_elim (λ same. subst (Contains (finmap.entries (finmap.insert segs id s))) same entry_new) (λ no. absurd (Contains-nil e no))
      (Contains-cons_cases (id, s) [] e d))
      (Contains-append_cases (meeting segs b) ((id, s) ∷ []) e c)

  -- in a part of the block
  part_listed : (b q : Block) → ((r : Seg) → meets r (square q) ≡ true → meets r (square b) ≡ true)
      → IsPermutation (filter (λ e. meets e.1 (square q)) (finmap.entries (finmap.insert segs id s))) (filter (λ e. meets e.1 (square q)) (listed b))
  part_listed b q within =
      let test : ℕ × Seg → Bool = λ e. meets e.1 (square q) in
      let all = finmap.entries (finmap.insert segs id s) in
      permutation_from (filter test all) (filter test (listed b)) (Apart-filter test all (entries_apart (finmap.insert segs id s)))
      (Apart-filter test (listed b) (listed_apart b))
      (λ e. (
        λ c. let w = Contains-filter_from test all e c in Contains-filter test (listed b) e (to_listed b e w.0 (within e.1 w.1)) w.1,
        λ c. let w = Contains-filter_from test (listed b) e c in Contains-filter test all e (from_listed b e w.0) w.1,
      ))

  part_facts : (b q : Block) → ((r : Seg) → meets r (square q) ≡ true → meets r (square b) ≡ true)
      → IsPermutation (line_facts (finmap.insert segs id s) q) (facts_by q (ids_meeting (listed b) q))
  part_facts b q within =
      let test : ℕ × Seg → Bool = λ e. meets e.1 (square q) in
      let fact : ℕ × Seg → Fact = λ e. IsMetBy q e.0 in
      subst (λ (fs : List Fact). IsPermutation (line_facts (finmap.insert segs id s) q) (or_none (IsMetByNone q) fs))
      (sym (map_twice (λ (i : ℕ). IsMetBy q i) (λ (e : ℕ × Seg). e.0) (filter test (listed b))))
      (or_none_permuted (IsMetByNone q) (map fact (filter test (finmap.entries (finmap.insert segs id s)))) (map fact (filter test (listed b)))
      (IsPermutation-map fact (filter test (finmap.entries (finmap.insert segs id s))) (filter test (listed b)) (part_listed b q within)))

  -- in its quarters
  pub quarter_facts : (n : ℕ) (b : Block) → IsBlock n b → 1 < b.side
      → IsPermutation (flat_map (line_facts (finmap.insert segs id s)) (quarters_of b)) (flat_map (λ q. facts_by q (ids_meeting (listed b) q)) (quarters_of b))
  quarter_facts n b hb wide =
      flat_permuted (line_facts (finmap.insert segs id s)) (λ q. facts_by q (ids_meeting (listed b) q)) (quarters_of b)
      (λ q c. part_facts b q (λ r m. meets_within r q b (quarters_are n b q hb wide c).within m))

  -- how many meet it then
  one_more : (b : Block) → meets s (square b) ≡ true → segs_meeting (finmap.insert segs id s) b ≡ length (meeting segs b) + 1
  one_more b m =
      let test : ℕ × Seg → Bool = λ e. meets e.1 (square b) in
      let all = finmap.entries (finmap.insert segs id s) in
      let meets_it : (e : ℕ × Seg) → Contains (listed b) e → meets e.1 (square b) ≡ true =
      λ e c. ⊎_elim (λ d. (Contains-filter_from test (finmap.entries segs) e d).1)
      (λ d. ⊎_elim (λ same. subst (λ (z : ℕ × Seg). meets z.1 (square b) ≡ true) same m) (λ no. absurd (Contains-nil e no))
      (Contains-cons_cases (id, s) [] e d))
      (Contains-append_cases (meeting segs b) ((id, s) ∷ []) e c) in
      let same = same_length (filter test all) (listed b) (Apart-filter test all (entries_apart (finmap.insert segs id s))) (listed_apart b) (λ e. (
        λ c. let w = Contains-filter_from test all e c in to_listed b e w.0 w.1,
        λ c. Contains-filter test all e (from_listed b e c) (meets_it e c),
      )) in
      let count = length-filter test all in
      let two = length-append (meeting segs b) ((id, s) ∷ []) in
      omega arith

  -- which blocks are split
  pub splits : (t : ℕ) (b : Block) (ids : List ℕ) → ids ≡ ids_of (meeting segs b) → meets s (square b) ≡ true → 1 < b.side → t ≤ length ids
      → is_split t (finmap.insert segs id s) s b ≡ true
  splits t b ids are m wide many =
      let count = one_more b m in
      let known = ap length are ∙ length_map (λ (e : ℕ × Seg). e.0) (meeting segs b) in
      and_from (meets s (square b) && nat_lt 1 b.side) (nat_lt t (segs_meeting (finmap.insert segs id s) b))
      (and_from (meets s (square b)) (nat_lt 1 b.side) m (lt-ltb 1 b.side wide)) (lt-ltb t (segs_meeting (finmap.insert segs id s) b) (omega arith))

  pub stays : (t : ℕ) (b : Block) (ids : List ℕ) → ids ≡ ids_of (meeting segs b) → meets s (square b) ≡ true → b.side ≤ 1 ⊎ (length ids < t)
      → is_split t (finmap.insert segs id s) s b ≡ false
  stays t b ids are m few =
      let count = one_more b m in
      let known = ap length are ∙ length_map (λ (e : ℕ × Seg). e.0) (meeting segs b) in
      ⊎_elim (λ y. y)
      (λ yes.
      let w = and_parts (meets s (square b) && nat_lt 1 b.side) (nat_lt t (segs_meeting (finmap.insert segs id s) b)) yes in
      let wide = ltb-true 1 b.side (and_parts (meets s (square b)) (nat_lt 1 b.side) w.0).1 in
      let over = ltb-true t (segs_meeting (finmap.insert segs id s) b) w.1 in
      absurd (⊎_elim (λ narrow. omega arith) (λ below. omega arith) few))
      (either (is_split t (finmap.insert segs id s) s b))
    where
      either : (u : Bool) → (u ≡ false) ⊎ (u ≡ true)
      either true = inr refl
      either false = inl refl

-- ---- facts on one block
line_facts_by : (segs : SegMap) (b : Block) (ids : List ℕ) → ids ≡ ids_of (meeting segs b) → line_facts segs b ≡ facts_by b ids
line_facts_by segs b ids are =
    ap (or_none (IsMetByNone b)) (sym (map_twice (λ (i : ℕ). IsMetBy b i) (λ (e : ℕ × Seg). e.0) (meeting segs b))
    ∙ ap (map (λ (i : ℕ). IsMetBy b i)) (sym are))

none_on_by : (segs : SegMap) (b : Block) (ids : List ℕ) → ids ≡ ids_of (meeting segs b) → none_on segs b ≡ cond (eqb (length ids) 0) (IsMetByNone b ∷ []) []
none_on_by segs b ids are =
    ap (λ (m : ℕ). cond {A = List Fact} (eqb m 0) (IsMetByNone b ∷ []) [])
    (sym (length-filter (λ (e : ℕ × Seg). meets e.1 (square b)) (finmap.entries segs)) ∙ sym (length_map (λ (e : ℕ × Seg). e.0) (meeting segs b))
    ∙ ap length (sym are))

-- ---- what goes and comes on several blocks
module _ (n layer t : ℕ) (segs : SegMap) (id : ℕ) (s : Seg) where
  abbrev goes_on : Block → List Fact
  goes_on b = removed_on t segs (finmap.insert segs id s) s b

  abbrev comes_on : Block → List Fact
  comes_on b = added_on t (finmap.insert segs id s) id s b

  rows_append : (old : List Record) (f : Block → List Fact) (xs ys : List Block)
      → old ++ map (fact_record n layer) (flat_map f (xs ++ ys)) ≡ (old ++ map (fact_record n layer) (flat_map f xs)) ++ map (fact_record n layer)
      (flat_map f ys)
  rows_append old f xs ys =
      ap (λ fs. old ++ map (fact_record n layer) fs) (flat_map-append f xs ys)
      ∙ ap (λ rs. old ++ rs) (map-append (fact_record n layer) (flat_map f xs) (flat_map f ys))
      ∙ sym (append_assoc old (map (fact_record n layer) (flat_map f xs)) (map (fact_record n layer) (flat_map f ys)))

  pub added_none : (gone come : List Record) → IsAdded n layer t segs id s [] gone gone come come
  added_none gone come = record {
    goes = sym (append-nil gone);
    comes = subst (λ (rs : List Record). IsPermutation rs come) (sym (append-nil come)) (IsPermutation-refl come);
  }

  pub added_append : (xs ys : List Block) (gone more most come some all : List Record) → IsAdded n layer t segs id s xs gone more come some
      → IsAdded n layer t segs id s ys more most some all → IsAdded n layer t segs id s (xs ++ ys) gone most come all
  added_append xs ys gone more most come some all a b = record {
    goes = b.goes ∙ ap (λ rs. rs ++ map (fact_record n layer) (flat_map goes_on ys)) a.goes ∙ sym (rows_append gone goes_on xs ys);
    comes =
        subst (λ (rs : List Record). IsPermutation rs all) (sym (rows_append come comes_on xs ys))
        (IsPermutation-trans ((come ++ map (fact_record n layer) (flat_map comes_on xs)) ++ map (fact_record n layer) (flat_map comes_on ys))
        (some ++ map (fact_record n layer) (flat_map comes_on ys)) all
        (IsPermutation-append_left (map (fact_record n layer) (flat_map comes_on ys)) (come ++ map (fact_record n layer) (flat_map comes_on xs)) some
        a.comes) b.comes);
  }

  one_block : (f : Block → List Fact) (b : Block) → flat_map f (b ∷ []) ≡ f b
  one_block f b = append-nil (f b)

  added_one : (b : Block) (gone more come some : List Record) (going : List Fact) (coming : List Fact) → Follow n layer gone more going → going ≡ goes_on b
      → Follow n layer come some coming → IsPermutation (comes_on b) coming
      → IsAdded n layer t segs id s (b ∷ []) gone more come some
  added_one b gone more come some going coming g go c co = record {
    goes = g ∙ ap (λ fs. gone ++ map (fact_record n layer) fs) (go ∙ sym (one_block goes_on b));
    comes =
        subst (λ (fs : List Fact). IsPermutation (come ++ map (fact_record n layer) fs) some) (sym (one_block comes_on b))
        (subst (IsPermutation (come ++ map (fact_record n layer) (comes_on b))) (sym c)
        (IsPermutation-append_right come (map (fact_record n layer) (comes_on b)) (map (fact_record n layer) coming)
        (IsPermutation-map (fact_record n layer) (comes_on b) coming co)));
  }

  -- on a block that stays
  pub added_kept : (new : finmap.get segs id ≡ None) (b : Block) (ids : List ℕ) → ids ≡ ids_of (meeting segs b) → meets s (square b) ≡ true
      → b.side ≤ 1 ⊎ (length ids < t) → (gone more come some : List Record)
      → Follow n layer gone more (cond (eqb (length ids) 0) (IsMetByNone b ∷ []) []) → Follow n layer come some (IsMetBy b id ∷ [])
      → IsAdded n layer t segs id s (b ∷ []) gone more come some
  added_kept new b ids are m few gone more come some g c =
      let whole = stays segs id s new t b ids are m few in
      added_one b gone more come some (cond (eqb (length ids) 0) (IsMetByNone b ∷ []) []) (IsMetBy b id ∷ []) g
      (sym (none_on_by segs b ids are) ∙ sym (ap (λ u. cond {A = List Fact} u (line_facts segs b) (none_on segs b)) whole)) c
      (subst (λ (fs : List Fact). IsPermutation fs (IsMetBy b id ∷ []))
      (sym (ap (λ u. cond {A = List Fact} u (flat_map (line_facts (finmap.insert segs id s)) (quarters_of b)) (IsMetBy b id ∷ [])) whole))
      (IsPermutation-refl (IsMetBy b id ∷ [])))

  -- on a block that is split
  pub added_cut : (new : finmap.get segs id ≡ None) (b : Block) (ids : List ℕ) → IsBlock n b → ids ≡ ids_of (meeting segs b) → meets s (square b) ≡ true
      → 1 < b.side → t ≤ length ids → (gone more come some : List Record)
      → Follow n layer gone more (facts_by b ids)
      → Follow n layer come some (flat_map (λ q. facts_by q (ids_meeting (meeting segs b ++ (id, s) ∷ []) q)) (quarters_of b))
      → IsAdded n layer t segs id s (b ∷ []) gone more come some
  added_cut new b ids hb are m wide many gone more come some g c =
      let cut = splits segs id s new t b ids are m wide many in
      let coming = flat_map (λ q. facts_by q (ids_meeting (meeting segs b ++ (id, s) ∷ []) q)) (quarters_of b) in
      added_one b gone more come some (facts_by b ids) coming g
      (sym (line_facts_by segs b ids are) ∙ sym (ap (λ u. cond {A = List Fact} u (line_facts segs b) (none_on segs b)) cut)) c
      (subst (λ (fs : List Fact). IsPermutation fs coming)
      (sym (ap (λ u. cond {A = List Fact} u (flat_map (line_facts (finmap.insert segs id s)) (quarters_of b)) (IsMetBy b id ∷ [])) cut))
      (quarter_facts segs id s new n b hb wide))

-- ---- a descent
module _ (cover : BlockSet) (s : Seg) where
  pub met_away : (k : ℕ) (b : Block) → meets s (square b) ≡ false → met_in cover s k b ≡ []
  met_away ℕ.zero b e = ap (λ u. cond {A = List Block} u (b ∷ []) []) (and_right (finset.contains cover b) (meets s (square b)) e)
  met_away (ℕ.suc k) b e = ap (λ u. cond {A = List Block} (not u) []
      (cond {A = List Block} (finset.contains cover b) (b ∷ []) (flat_map (met_in cover s k) (quarters_of b)))) e

  pub met_here : (k : ℕ) (b : Block) → meets s (square b) ≡ true → finset.contains cover b ≡ true → met_in cover s k b ≡ b ∷ []
  met_here ℕ.zero b m e = ap (λ u. cond {A = List Block} u (b ∷ []) []) (and_from (finset.contains cover b) (meets s (square b)) e m)
  met_here (ℕ.suc k) b m e =
      ap (λ u. cond {A = List Block} (not u) [] (cond {A = List Block} (finset.contains cover b) (b ∷ []) (flat_map (met_in cover s k) (quarters_of b)))) m
      ∙ ap (λ u. cond {A = List Block} u (b ∷ []) (flat_map (met_in cover s k) (quarters_of b))) e

  pub met_below : (k : ℕ) (b : Block) → meets s (square b) ≡ true → finset.contains cover b ≡ false
      → met_in cover s (ℕ.suc k) b ≡ flat_map (met_in cover s k) (quarters_of b)
  met_below k b m e =
      ap (λ u. cond {A = List Block} (not u) [] (cond {A = List Block} (finset.contains cover b) (b ∷ []) (flat_map (met_in cover s k) (quarters_of b)))) m
      ∙ ap (λ u. cond {A = List Block} u (b ∷ []) (flat_map (met_in cover s k) (quarters_of b))) e

module _ (n layer t : ℕ) (segs : SegMap) (id : ℕ) (s : Seg) where
  -- one quarter more
  pub added_next : (f : Block → List Block) (qs : List Block) (i : ℕ) (d : Block) (gone more most come some all : List Record) → i < length qs
      → IsAdded n layer t segs id s (flat_map f (take i qs)) gone more come some
      → IsAdded n layer t segs id s (f (get_or qs i d)) more most some all → IsAdded n layer t segs id s (flat_map f (take (i + 1) qs)) gone most come all
  added_next f qs i d gone more most come some all lt a b =
      let split : flat_map f (take i qs) ++ f (get_or qs i d) ≡ flat_map f (take (i + 1) qs) =
      ap (λ (bs : List Block). flat_map f (take i qs) ++ bs) (sym (append-nil (f (get_or qs i d))))
      ∙ sym (flat_map-append f (take i qs) (get_or qs i d ∷ [])) ∙ ap (flat_map f) (sym (take_next qs i d lt)) in
      subst (λ (bs : List Block). IsAdded n layer t segs id s bs gone most come all) split
      (added_append n layer t segs id s (flat_map f (take i qs)) (f (get_or qs i d)) gone more most come some all a b)

  pub added_all : (f : Block → List Block) (qs : List Block) (i : ℕ) (gone most come all : List Record) → length qs ≤ i
      → IsAdded n layer t segs id s (flat_map f (take i qs)) gone most come all → IsAdded n layer t segs id s (flat_map f qs) gone most come all
  added_all f qs i gone most come all le a = subst (λ (bs : List Block). IsAdded n layer t segs id s (flat_map f bs) gone most come all) (take_all i qs le) a

  -- the four quarters of a block that is none of the layer's
  pub added_below : (cover : BlockSet) (k : ℕ) (b : Block) (gone most come all : List Record) → b.side ≡ side k → 1 < b.side → meets s (square b) ≡ true
      → finset.contains cover b ≡ false
      → ((j : ℕ) → b.side ≡ side (ℕ.suc j) → IsAdded n layer t segs id s (flat_map (met_in cover s j) (quarters_of b)) gone most come all)
      → IsAdded n layer t segs id s (met_in cover s k b) gone most come all
  added_below cover ℕ.zero b gone most come all e wide m away below = absurd (omega arith)
  added_below cover (ℕ.suc j) b gone most come all e wide m away below = subst (λ (bs : List Block). IsAdded n layer t segs id s bs gone most come all)
      (sym (met_below cover s j b m away)) (below j e)

  -- from the whole square on, behind the segment's own record
  pub added_whole : (cover : BlockSet) (b : Block) (gone all_gone come all_come : List Record) (r : Record) → b ≡ whole n → gone ≡ [] → come ≡ r ∷ []
      → r ≡ fact_record n layer (IsSegment id s) → IsAdded n layer t segs id s (met_in cover s n b) gone all_gone come all_come
      → IsAdded n layer t segs id s (met_in cover s n (whole n)) [] all_gone (fact_record n layer (IsSegment id s) ∷ []) all_come
  added_whole cover b gone all_gone come all_come r square none one row a =
      subst (λ (rs : List Record). IsAdded n layer t segs id s (met_in cover s n (whole n)) [] all_gone rs all_come) (one ∙ ap (λ (z : Record). z ∷ []) row)
      (subst (λ (rs : List Record). IsAdded n layer t segs id s (met_in cover s n (whole n)) rs all_gone come all_come) none
      (subst (λ (z : Block). IsAdded n layer t segs id s (met_in cover s n z) gone all_gone come all_come) square a))

-- ---- the whole addition
module _ (n layer t : ℕ) (le : n ≤ 12) (least : 1 ≤ layer) (segs : SegMap) (cover : BlockSet) (id : ℕ) (s : Seg) (valid : IsLineMap n t segs cover)
    (new : finmap.get segs id ≡ None) (small : id < 2 ^ 32) (inside : is_in_square n s ≡ true)
    (gone come : List Record) (added : IsAdded n layer t segs id s (met_in cover s n (whole n)) [] gone (fact_record n layer (IsSegment id s) ∷ []) come) where
  list : IsMetList cover s (met_in cover s n (whole n))
  list = visit_law n t segs cover s valid

  abbrev going : List Fact
  going = facts_removed t segs id s (met_in cover s n (whole n))

  abbrev coming : List Fact
  coming = facts_added t segs id s (met_in cover s n (whole n))

  later_valid : IsLineMap n t (finmap.insert segs id s) (after_add t (finmap.insert segs id s) cover s)
  later_valid = added_law n t segs cover id s valid small inside

  once : Apart coming × Apart going
  once = add_once_law n t segs cover id s (met_in cover s n (whole n)) valid new list

  law : (f : Fact) → (Contains coming f ↔ IsAlone (facts n (with_seg t segs cover id s)) (facts n (Lines t segs cover)) f) ×
      (Contains going f ↔ IsAlone (facts n (Lines t segs cover)) (facts n (with_seg t segs cover id s)) f)
  law f = add_law n t segs cover id s (met_in cover s n (whole n)) valid new list f

  pub add_can : CanBeEdits gone come
  add_can =
      subst (λ (rs : List Record). CanBeEdits rs come) (sym added.goes)
      (can_permuted (map (fact_record n layer) going) (map (fact_record n layer) coming) come added.comes
      (can n layer t le least segs (finmap.insert segs id s) cover (after_add t (finmap.insert segs id s) cover s) valid later_valid going coming
      (λ f. (law f).1) once.1 (λ f. (law f).0) once.0))

  pub add_plan : (edits : Edits) → IsPermutation gone edits.remove → IsPermutation come edits.add
      → IsLinePlan n layer t segs (finmap.insert segs id s) cover (after_add t (finmap.insert segs id s) cover s) edits
  add_plan edits pr pa =
      plan n layer t le least segs (finmap.insert segs id s) cover (after_add t (finmap.insert segs id s) cover s) valid later_valid going coming
      (λ f. (law f).1) once.1 (λ f. (law f).0) once.0 edits
      (subst (λ (rs : List Record). IsPermutation rs edits.remove) added.goes pr)
      (IsPermutation-trans (map (fact_record n layer) coming) come edits.add added.comes pa)
