-- A block that is kept, quarters that become one block and quarters that stay apart, as records.
use Rattle.std.proofs.Common.{◌≡◌, ◌↔◌, ℕ, ◌+◌, ◌<◌, ◌≤◌, Bool, true, false, cond, not, ◌&&◌, nat_le, leb-true, List, [], ◌∷◌, map, filter, length}
use Rattle.std.proofs.Common.{⊎_elim, refl, sym, ◌∙◌, ap, subst, arith, Contains, Less, nat_cmp, eqb-true, eq-eqb, suc, get_or, pow_pos}
use Rattle.std.proofs.Common.{pow-suc}
use Rattle.std.specs.Prelude.{◌==◌}
use Rattle.std.specs.List.{list_all}
use Rattle.std.specs.List.Sorted.{IsSorted}
use Rattle.std.specs.Ordering.{is_lt}
use Rattle.std.specs.Cmp.{nat_cmp_total}
use Rattle.std.specs.FinMap as finmap
use Rattle.std.specs.FinMap.{nat_cmp-IsAntisymmetric}
use Rattle.std.proofs.lemmas.List.Sorted.{ranks_by, sorted_far}
use Rattle.std.proofs.lemmas.Bool.{both_ways, cases_lt, and_parts, lt-leb, cond-true, cond-false}
use Rattle.std.proofs.lemmas.List.{append-nil, length-map}
use Rattle.std.proofs.lemmas.List.Sums.{length-filter}
use Rattle.std.proofs.lemmas.Option.{none-some}
use Rattle.quilt_types.specs.Sets as finset
use Rattle.quilt_types.specs.declared.plane.Block.{Block}
use Rattle.quilt_types.specs.declared.plane.Seg.{Seg}
use Rattle.quilt_types.specs.Plane.{side, quarters_of, IsBlock}
use Rattle.quilt_types.specs.Layers.{SegMap, BlockSet}
use Rattle.quilt_types.specs.Segments.{square, meets}
use Rattle.quilt_types.specs.Quadtrees.{segs_meeting}
use Rattle.quilt_types.specs.Facts.{Fact, IsMetBy, IsMetByNone, or_none, line_facts}
use Rattle.quilt_loc.specs.Codes.{Rises}
use Rattle.quilt_loc.proofs.Members.{Contains-map, Contains-map_from, Contains-filter, Contains-filter_from}
use Rattle.quilt_loc.proofs.Rising.{Rises-filter, Rises-map, same_rising, nat_less}
use Rattle.quilt_edits.proofs.Ascents.{permuted, Apart-permuted}
use Rattle.quilt_near.specs.Lines.{meeting}
use Rattle.quilt_spell.specs.Apart.{Apart}
use Rattle.quilt_spell.proofs.Lists.{Apart-le, Apart-rises, same_length}
use Rattle.quilt_spell.proofs.Maps.{by_first, Rises-entries, get_removed, get_kept}
use Rattle.quilt_line_laws.specs.Lines.{IsMet, none_on}
use Rattle.quilt_line_laws.specs.Merging.{is_one, becomes_one, going_in}
use Rattle.quilt_line_laws.proofs.LineFacts.{entry, got}
use Rattle.quilt_line_laws.proofs.Meeting.{meets_parts}
use Rattle.quilt_line_laws.specs.Settling.{IsBlockSettled}
use Rattle.quilt_line_laws.proofs.Settling.{leaf_step, unmet_step, merge_step, cut_step}
use Rattle.quilt_lines.specs.declared.merge.Settled.{Settled}
use Rattle.quilt_lines.specs.Layers.{fact_record}
use Rattle.quilt_lines.specs.Reads.{ids_of, AreIdsAt}
use Rattle.quilt_lines.specs.Merges.{records_on, pair_facts, met_by, SettlesBlock, Gathers, IsMerged}

-- ---- ids in their order
not_above : (x y : ℕ) → is_lt (nat_cmp y x) ≡ false → (x ≡ y → ⊥) → nat_cmp x y ≡ Less
not_above x y h apart = ⊎_elim (λ lt. nat_less x y lt) (λ le. absurd (below (omega arith))) (cases_lt x y)
  where
    below : y ≤ x → ⊥
    below le = ⊎_elim (λ lt. both_ways (is_lt (nat_cmp y x)) h (ap is_lt (nat_less y x lt))) (λ ge. apart (omega arith)) (cases_lt y x)

sorted_tail : (x : ℕ) (xs : List ℕ) → IsSorted nat_cmp (x ∷ xs) → IsSorted nat_cmp xs
sorted_tail x xs up k d low lt =
    let e : k + 1 ≡ suc k = omega arith in
    let f : suc k + 1 ≡ suc (suc k) = omega arith in
    subst (λ (j : ℕ). is_lt (nat_cmp (get_or xs j d) (get_or xs k d)) ≡ false) (sym e)
    (subst (λ (j : ℕ). is_lt (nat_cmp (get_or (x ∷ xs) j d) (get_or (x ∷ xs) (suc k) d)) ≡ false) f (up (suc k) d (omega arith) (omega arith)))

sorted_rises : (xs : List ℕ) → IsSorted nat_cmp xs → Apart xs → Rises nat_cmp xs
sorted_rises [] up once = tt
sorted_rises (x ∷ xs) up once = (
  λ y c.
      let far = sorted_far (λ (a b : ℕ). is_lt (nat_cmp a b)) (ranks_by nat_cmp_total (λ (z : ℕ). z)) (x ∷ xs) up 0 (suc c.0) y (omega arith)
      (let lt = c.1 in omega arith) in
      not_above x y (subst (λ (z : ℕ). is_lt (nat_cmp z x) ≡ false) c.2 far) (λ e. once.0 (subst (Contains xs) (sym e) c)),
  sorted_rises xs (sorted_tail x xs up) once.1,
)

-- the ids that meet a block rise
pub ids_rise : (segs : SegMap) (b : Block) → Rises nat_cmp (ids_of (meeting segs b))
ids_rise segs b =
    Rises-map (by_first nat_cmp) nat_cmp (λ (e : ℕ × Seg). e.0) (meeting segs b) (λ d e cd ce less. less)
    (Rises-filter (by_first nat_cmp) (λ (e : ℕ × Seg). meets e.1 (square b)) (finmap.entries segs) (Rises-entries nat_cmp segs))

pub ids_are : (segs : SegMap) (b : Block) (i : ℕ) → Contains (ids_of (meeting segs b)) i ↔ IsMet segs b i
ids_are segs b i = (
  λ c.
      let e = Contains-map_from (λ (e : ℕ × Seg). e.0) (meeting segs b) i c in
      let k = Contains-filter_from (λ (e : ℕ × Seg). meets e.1 (square b)) (finmap.entries segs) e.0 e.1 in
      (e.0.1, ap (finmap.get segs) (sym e.2) ∙ got segs e.0 k.0, k.1),
  λ m.
      Contains-map (λ (e : ℕ × Seg). e.0) (meeting segs b) (i, m.0)
      (Contains-filter (λ (e : ℕ × Seg). meets e.1 (square b)) (finmap.entries segs) (i, m.0) (entry segs i m.0 m.1) m.2),
)

pub ids_number : (segs : SegMap) (b : Block) → length (ids_of (meeting segs b)) ≡ segs_meeting segs b
ids_number segs b = length-map (meeting segs b) (λ (e : ℕ × Seg). e.0) ∙ length-filter (λ (e : ℕ × Seg). meets e.1 (square b)) (finmap.entries segs)

-- ids that rise and that are those that meet it
pub ids_from : (segs : SegMap) (b : Block) (ids : List ℕ) → Rises nat_cmp ids → ((i : ℕ) → Contains ids i ↔ IsMet segs b i) → ids ≡ ids_of (meeting segs b)
ids_from segs b ids up are =
    same_rising nat_cmp nat_cmp_total ids (ids_of (meeting segs b)) up (ids_rise segs b) (λ i.
    let v = are i in
    let w = ids_are segs b i in (λ c. w.1 (v.0 c), λ c. v.1 (w.0 c)))

pub pair_facts-are : (segs : SegMap) (b : Block) → pair_facts b (ids_of (meeting segs b)) ≡ line_facts segs b
pair_facts-are segs b = ap (or_none (IsMetByNone b)) (pairs_are (meeting segs b))
  where
    pairs_are : (es : List (ℕ × Seg)) → map (IsMetBy b) (ids_of es) ≡ map (λ e. IsMetBy b e.0) es
    pairs_are [] = refl
    pairs_are (e ∷ es) = ap (λ l. IsMetBy b e.0 ∷ l) (pairs_are es)

-- ---- records of one block
pub on_one : (n layer : ℕ) (f : Block → List Fact) (b : Block) → records_on n layer f (b ∷ []) ≡ map (fact_record n layer) (f b)
on_one n layer f b = ap (map (fact_record n layer)) (append-nil (f b))

-- ---- a segment less
module _ (segs : SegMap) (id : ℕ) where
  other_met : (b : Block) (i : ℕ) → IsMet (finmap.remove segs id) b i ↔ (IsMet segs b i × (i ≡ id → ⊥))
  other_met b i = (
    λ m. let d : i ≡ id → ⊥ = λ e. none-some m.0 (sym (get_removed nat_cmp nat_cmp_total nat_cmp-IsAntisymmetric segs id)
        ∙ ap (finmap.get (finmap.remove segs id)) (sym e) ∙ m.1) in
        ((m.0, sym (get_kept nat_cmp nat_cmp_total nat_cmp-IsAntisymmetric segs id i d) ∙ m.1, m.2), d),
    λ w. (w.0.0, get_kept nat_cmp nat_cmp_total nat_cmp-IsAntisymmetric segs id i w.1 ∙ w.0.1, w.0.2),
  )

  pub others_are : (b : Block) → filter (λ i. not (i == id)) (ids_of (meeting segs b)) ≡ ids_of (meeting (finmap.remove segs id) b)
  others_are b =
      let away : ℕ → Bool = λ i. not (i == id) in
      ids_from (finmap.remove segs id) b (filter away (ids_of (meeting segs b))) (Rises-filter nat_cmp away (ids_of (meeting segs b)) (ids_rise segs b)) (λ i. (
        λ c.
            let w = Contains-filter_from away (ids_of (meeting segs b)) i c in
            (other_met b i).1 ((ids_are segs b i).0 w.0, λ e. is_away i w.1 e),
        λ m.
            let w = (other_met b i).0 m in
            Contains-filter away (ids_of (meeting segs b)) i ((ids_are segs b i).1 w.0) (away_is i w.1),
      ))
    where
      is_away : (i : ℕ) → not (i == id) ≡ true → i ≡ id → ⊥
      is_away i h e = not_both (i == id) h (eq-eqb i id e)
        where
          not_both : (u : Bool) → not u ≡ true → u ≡ true → ⊥
          not_both true h k = cc
          not_both false h k = cc

      away_is : (i : ℕ) → (i ≡ id → ⊥) → not (i == id) ≡ true
      away_is i h = by_case (i == id) refl
        where
          by_case : (u : Bool) → (i == id) ≡ u → not u ≡ true
          by_case true e = absurd (h (eqb-true i id e))
          by_case false e = refl

module _ (n layer t id : ℕ) (segs : SegMap) (cover : BlockSet) (s : Seg) (k : ℕ) (b : Block) where
  -- ---- a block of the layer
  pub kept_settles : (ids : List ℕ) (x : Settled) → AreIdsAt segs cover b ids → x.one ≡ true → x.ids.items ≡ filter (λ i. not (i == id)) ids
      → x.parts.items ≡ map (fact_record n layer) (pair_facts b ids) → x.coming.items ≡ [] → x.going.items ≡ []
      → x.staying.items ≡ cond (meets s (square b)) (fact_record n layer (IsMetBy b id) ∷ []) []
      → x.emptied.items ≡ cond (meets s (square b) && (length x.ids.items == 0)) (fact_record n layer (IsMetByNone b) ∷ []) []
      → SettlesBlock n layer t id segs cover s k b x
  kept_settles ids x at one others parts coming going staying emptied =
      let step = leaf_step t (finmap.remove segs id) cover s k b at.there in
      let met = others ∙ ap (filter (λ i. not (i == id))) at.are ∙ others_are segs id b in
      record {
        one = one ∙ step.is_one;
        ids = λ _. met;
        parts = λ _.
            parts ∙ ap (λ (l : List ℕ). map (fact_record n layer) (pair_facts b l)) at.are ∙ ap (map (fact_record n layer)) (pair_facts-are segs b)
            ∙ sym (on_one n layer (line_facts segs) b)
            ∙ ap (records_on n layer (line_facts segs)) (sym (cond-true (finset.contains cover b) (b ∷ []) (going_in t (finmap.remove segs id) cover s k b)
            at.there));
        coming = coming ∙ ap (records_on n layer (line_facts (finmap.remove segs id))) step.come;
        going = going ∙ ap (records_on n layer (line_facts segs)) step.go;
        staying = staying ∙ staying_by (meets s (square b)) ∙ ap (records_on n layer (met_by id)) step.stay;
        emptied =
            emptied ∙ ap (λ z. cond (meets s (square b) && (z == 0)) (fact_record n layer (IsMetByNone b) ∷ []) [])
            (ap length met ∙ ids_number (finmap.remove segs id) b)
            ∙ emptied_by (meets s (square b)) (segs_meeting (finmap.remove segs id) b == 0) refl
            ∙ ap (records_on n layer (none_on (finmap.remove segs id))) step.stay;
      }
    where
      staying_by : (m : Bool) → cond m (fact_record n layer (IsMetBy b id) ∷ []) [] ≡ records_on n layer (met_by id) (cond m (b ∷ []) [])
      staying_by true = refl
      staying_by false = refl

      emptied_by : (m e : Bool) → (segs_meeting (finmap.remove segs id) b == 0) ≡ e
          → cond (m && e) (fact_record n layer (IsMetByNone b) ∷ []) [] ≡ records_on n layer (none_on (finmap.remove segs id)) (cond m (b ∷ []) [])
      emptied_by false e is = refl
      emptied_by true e is =
          none_by e ∙ ap (λ z. map (fact_record n layer) (cond z (IsMetByNone b ∷ []) [])) (sym is) ∙ sym (on_one n layer (none_on (finmap.remove segs id)) b)
        where
          none_by : (z : Bool) → cond z (fact_record n layer (IsMetByNone b) ∷ []) [] ≡ map (fact_record n layer) (cond z (IsMetByNone b ∷ []) [])
          none_by true = refl
          none_by false = refl

  -- ---- four quarters
  module _ (hb : IsBlock n b) (e : b.side ≡ side (suc k)) (away : finset.contains cover b ≡ false) (met : meets s (square b) ≡ true) (x : Settled)
      (g : Gathers n layer t id segs cover s k (quarters_of b) x) where
    wide : 1 < b.side
    wide = let p = pow-suc 2 k in let q = pow_pos k in omega arith

    -- an id that meets a quarter meets the block, and the other way round
    through : (i : ℕ) → IsMet (finmap.remove segs id) b i ↔ ((q : Block) × Contains (quarters_of b) q × IsMet (finmap.remove segs id) q i)
    through i = (
      λ m. let q = (meets_parts n m.0 b hb wide).0 m.2 in (q.0, q.1, (m.0, m.1, q.2)),
      λ w. let m = w.2 in (m.0, m.1, (meets_parts n m.0 b hb wide).1 (w.0, w.1, m.2)),
    )

    number_least : x.one ≡ true → length x.ids.items ≤ segs_meeting (finmap.remove segs id) b
    number_least o =
        let count = ids_number (finmap.remove segs id) b in
        let le = Apart-le x.ids.items (ids_of (meeting (finmap.remove segs id) b)) g.once
        (λ i c. (ids_are (finmap.remove segs id) b i).1 ((through i).1 (g.from o i c))) in
        omega arith

    all_met : x.one ≡ true → length x.ids.items ≤ t → (i : ℕ) → Contains x.ids.items i ↔ IsMet (finmap.remove segs id) b i
    all_met o few i = (λ c. (through i).1 (g.from o i c), λ m. let w = (through i).0 m in g.all o few w.0 w.1 i w.2)

    number_is : x.one ≡ true → length x.ids.items ≤ t → length x.ids.items ≡ segs_meeting (finmap.remove segs id) b
    number_is o few =
        same_length x.ids.items (ids_of (meeting (finmap.remove segs id) b)) g.once
        (Apart-rises nat_cmp nat_cmp_total (ids_of (meeting (finmap.remove segs id) b)) (ids_rise (finmap.remove segs id) b))
        (λ i. let v = all_met o few i in let w = ids_are (finmap.remove segs id) b i in (λ c. w.1 (v.0 c), λ c. v.1 (w.0 c)))
        ∙ ids_number (finmap.remove segs id) b

    same_few : x.one ≡ true → nat_le (segs_meeting (finmap.remove segs id) b) t ≡ nat_le (length x.ids.items) t
    same_few o =
        ⊎_elim
        (λ gt. let least = number_least o in lt-leb (segs_meeting (finmap.remove segs id) b) t (omega arith)
        ∙ sym (lt-leb (length x.ids.items) t gt))
        (λ few. ap (λ z. nat_le z t) (sym (number_is o few)))
        (cases_lt t (length x.ids.items))

    becomes_is : becomes_one t (finmap.remove segs id) cover s k b ≡ (x.one && nat_le (length x.ids.items) t)
    becomes_is =
        ap (λ (u : Bool). u && list_all (is_one t (finmap.remove segs id) cover s k) (quarters_of b) && nat_le (segs_meeting (finmap.remove segs id) b) t) met
        ∙ ap (λ (u : Bool). u && nat_le (segs_meeting (finmap.remove segs id) b) t) (sym g.one)
        ∙ by_case x.one refl
      where
        by_case : (u : Bool) → x.one ≡ u → (u && nat_le (segs_meeting (finmap.remove segs id) b) t) ≡ (u && nat_le (length x.ids.items) t)
        by_case false o = refl
        by_case true o = same_few o

    -- they stay apart
    pub cut_settles : (y : Settled) → (x.one && nat_le (length x.ids.items) t) ≡ false → y.one ≡ false
        → y.coming.items ≡ x.coming.items → y.going.items ≡ x.going.items → y.staying.items ≡ x.staying.items → y.emptied.items ≡ x.emptied.items
        → SettlesBlock n layer t id segs cover s (suc k) b y
    cut_settles y many one coming going staying emptied =
        let step = cut_step t (finmap.remove segs id) cover s k b away met (becomes_is ∙ many) in
        record {
          one = one ∙ step.is_one;
          ids = λ o. absurd (both_ways y.one one o);
          parts = λ o. absurd (both_ways y.one one o);
          coming = coming ∙ g.coming ∙ ap (records_on n layer (line_facts (finmap.remove segs id))) step.come;
          going = going ∙ g.going ∙ ap (records_on n layer (line_facts segs)) step.go;
          staying = staying ∙ g.staying ∙ ap (records_on n layer (met_by id)) step.stay;
          emptied = emptied ∙ g.emptied ∙ ap (records_on n layer (none_on (finmap.remove segs id))) step.stay;
        }

    -- they become one block
    pub merged_settles : (y : Settled) → (x.one && nat_le (length x.ids.items) t) ≡ true → IsMerged n layer b x.ids.items x.parts.items y
        → SettlesBlock n layer t id segs cover s (suc k) b y
    merged_settles y little m =
        let both = and_parts x.one (nat_le (length x.ids.items) t) little in
        let few = leb-true (length x.ids.items) t both.1 in
        let step = merge_step t (finmap.remove segs id) cover s k b away (becomes_is ∙ little) in
        let same = permuted x.ids.items y.ids.items m.permutation in
        let ids = ids_from (finmap.remove segs id) b y.ids.items
        (sorted_rises y.ids.items m.sorted (Apart-permuted x.ids.items y.ids.items m.permutation g.once))
        (λ i. let v = all_met both.0 few i in (λ c. v.0 ((same i).1 c), λ d. (same i).0 (v.1 d))) in
        record {
          one = m.one ∙ step.is_one;
          ids = λ _. ids;
          parts = λ _.
              m.parts ∙ g.parts both.0 ∙ ap (records_on n layer (line_facts segs)) step.go
              ∙ ap (records_on n layer (line_facts segs)) (sym
              (cond-false (finset.contains cover b) (b ∷ []) (going_in t (finmap.remove segs id) cover s (suc k) b) away));
          coming =
              m.coming ∙ ap (λ (l : List ℕ). map (fact_record n layer) (pair_facts b l)) ids
              ∙ ap (map (fact_record n layer)) (pair_facts-are (finmap.remove segs id) b)
              ∙ sym (on_one n layer (line_facts (finmap.remove segs id)) b) ∙ ap (records_on n layer (line_facts (finmap.remove segs id))) step.come;
          going = m.going ∙ g.parts both.0 ∙ ap (records_on n layer (line_facts segs)) step.go;
          staying = m.staying ∙ ap (records_on n layer (met_by id)) step.stay;
          emptied = m.emptied ∙ ap (records_on n layer (none_on (finmap.remove segs id))) step.stay;
        }

-- ---- a block that is none of the layer's, and that is one pixel or is not met
module _ (n layer t id : ℕ) (segs : SegMap) (cover : BlockSet) (s : Seg) where
  nothing_settles : (k : ℕ) (b : Block) (x : Settled) → IsBlockSettled t (finmap.remove segs id) cover s k b false [] [] [] → x.one ≡ false
      → x.coming.items ≡ [] → x.going.items ≡ [] → x.staying.items ≡ [] → x.emptied.items ≡ [] → SettlesBlock n layer t id segs cover s k b x
  nothing_settles k b x step one coming going staying emptied = record {
    one = one ∙ step.is_one;
    ids = λ o. absurd (both_ways x.one one o);
    parts = λ o. absurd (both_ways x.one one o);
    coming = coming ∙ ap (records_on n layer (line_facts (finmap.remove segs id))) step.come;
    going = going ∙ ap (records_on n layer (line_facts segs)) step.go;
    staying = staying ∙ ap (records_on n layer (met_by id)) step.stay;
    emptied = emptied ∙ ap (records_on n layer (none_on (finmap.remove segs id))) step.stay;
  }

  pub unmet_settles : (k : ℕ) (b : Block) (x : Settled) → b.side ≡ side k → finset.contains cover b ≡ false → (1 < b.side → meets s (square b) ≡ false)
      → x.one ≡ false
      → x.coming.items ≡ [] → x.going.items ≡ [] → x.staying.items ≡ [] → x.emptied.items ≡ [] → SettlesBlock n layer t id segs cover s k b x
  unmet_settles ℕ.zero b x e away unmet =
      nothing_settles ℕ.zero b x (record {
        is_one = sym away;
        come = refl;
        go = refl;
        stay = sym (cond-false (finset.contains cover b && meets s (square b)) (b ∷ []) [] (ap (λ (u : Bool). u && meets s (square b)) away));
      })
  unmet_settles (suc k) b x e away unmet =
      let p = pow-suc 2 k in
      let q = pow_pos k in
      nothing_settles (suc k) b x (unmet_step t (finmap.remove segs id) cover s (suc k) b away (unmet (omega arith)))
