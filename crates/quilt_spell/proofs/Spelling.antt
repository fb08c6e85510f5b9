-- `Spells` says what `SpellsUnder` says, for some numbers.
use Rattle.std.proofs.Common.{◌≡◌, ℕ, ◌≤◌, true, false, List, [], ◌∷◌, map, Some, refl, sym, ◌∙◌, ap, subst, ⊎_elim, Contains, All, eq-eqb, ne_eqb, nat_cmp}
use Rattle.std.specs.Prelude.{nat_eq}
use Rattle.std.specs.List.{IsDistinct}
use Rattle.std.specs.Cmp.{on_total}
use Rattle.std.specs.Cmp.Lexicographic.{slice_cmp, nat_list_cmp_total}
use Rattle.std.specs.FinMap as finmap
use Rattle.std.proofs.lemmas.List.Elements.{All-contains, All-weaker, All-contains_itself, All-from_recursion, recursion_from_All}
use Rattle.quilt_types.specs.Layers.{Map}
use Rattle.quilt_record.specs.declared.record.Record.{Record}
use Rattle.quilt_record.specs.Records.{Numbering, Spells, records_of}
use Rattle.quilt_loc.specs.Codes.{Rises}
use Rattle.quilt_spell.specs.Written.{by_key, IsNumbering}
use Rattle.quilt_spell.specs.Spelled.{SpellsUnder}
use Rattle.quilt_loc.proofs.Members.{Contains-nil, Contains-here, Contains-there, Contains-cons_cases, Contains-map, Contains-map_from}
use Rattle.quilt_loc.proofs.Rising.{same_rising}
use Rattle.quilt_spell.proofs.Maps.{by_first, Rises-keys, Rises-entries, entry_from_get, get_from_entry, key_from_get, get_from_key}
use Rattle.quilt_spell.proofs.Lists.{Apart-rises}
use Rattle.quilt_spell.proofs.Written.{name_same, written_from, written_is, records_ascend, ascending_are}

pub all_from : {X : Type 0} (P : X → Type 0) (xs : List X) → ((x : X) → Contains xs x → P x) → All P xs
all_from P xs h = All-weaker (Contains xs) P h xs (All-contains_itself xs)

true_false : true ≡ false → ⊥
true_false e = cc

second : List ℕ × ℕ → ℕ
second e = e.1

-- entries of which the values differ
one_key : (es : List (List ℕ × ℕ)) → IsDistinct nat_eq (map (λ e. e.1) es) → (d e : List ℕ × ℕ) → Contains es d → Contains es e → d.1 ≡ e.1 → d ≡ e
unfolding IsDistinct
one_key [] h d e c k same = absurd (Contains-nil d c)
one_key (f ∷ fs) h d e c k same =
    let differs = λ (x y : List ℕ × ℕ) (is : f ≡ x) (m : Contains fs y) (q : x.1 ≡ y.1).
    let apart = All-contains (λ (j : ℕ). nat_eq f.1 j ≡ false) (map (λ (w : List ℕ × ℕ). w.1) fs) y.1
    (All-from_recursion (λ (j : ℕ). nat_eq f.1 j ≡ false) (map (λ (w : List ℕ × ℕ). w.1) fs) h.0) (Contains-map (λ (w : List ℕ × ℕ). w.1) fs y m) in
    let eq : nat_eq f.1 y.1 ≡ true = eq-eqb f.1 y.1 (ap (λ (w : List ℕ × ℕ). w.1) is ∙ q) in
    true_false (sym eq ∙ apart) in
    ⊎_elim
    (λ is. ⊎_elim (λ js. sym is ∙ js) (λ m. absurd (differs d e is m same)) (Contains-cons_cases f fs e k))
    (λ l. ⊎_elim (λ js. absurd (differs e d js l (sym same))) (λ m. one_key fs h.1 d e l m same) (Contains-cons_cases f fs e k))
    (Contains-cons_cases f fs d c)

values_apart : (es : List (List ℕ × ℕ)) → Rises (by_first (slice_cmp nat_cmp)) es
    → ((d e : List ℕ × ℕ) → Contains es d → Contains es e → d.1 ≡ e.1 → d ≡ e) → IsDistinct nat_eq (map (λ e. e.1) es)
unfolding IsDistinct
values_apart [] h one = tt
values_apart (f ∷ fs) h one = (
  recursion_from_All (λ (j : ℕ). nat_eq f.1 j ≡ false) (map (λ (w : List ℕ × ℕ). w.1) fs)
      (all_from (λ (j : ℕ). nat_eq f.1 j ≡ false) (map (λ (w : List ℕ × ℕ). w.1) fs)
      (λ j c.
      let m = Contains-map_from (λ (w : List ℕ × ℕ). w.1) fs j c in
      ne_eqb f.1 j (λ e.
      let same = one f m.0 (Contains-here f fs) (Contains-there f fs m.0 m.1) (e ∙ sym m.2) in
      (Apart-rises (by_first (slice_cmp nat_cmp)) (on_total (λ (w : List ℕ × ℕ). w.0) nat_list_cmp_total) (f ∷ fs) h).0 (subst (Contains fs) (sym same) m.1)))),
  values_apart fs h.1 (λ d e c k. one d e (Contains-there f fs d c) (Contains-there f fs e k)),
)

module _ (layers : Map) (numbers : Numbering) where
  pub numbering_from : finmap.keys numbers ≡ finmap.keys layers → All (λ k. (1 ≤ k) × (k ≤ 255)) (finmap.values numbers)
      → IsDistinct nat_eq (finmap.values numbers) → IsNumbering layers numbers
  numbering_from keys fits differ = record {
    has = λ name l at.
        get_from_key (slice_cmp nat_cmp) nat_list_cmp_total name_same numbers name
        (subst (λ (ks : List (List ℕ)). Contains ks name) (sym keys) (key_from_get (slice_cmp nat_cmp) nat_list_cmp_total name_same layers name l at));
    only = λ name k at.
        get_from_key (slice_cmp nat_cmp) nat_list_cmp_total name_same layers name
        (subst (λ (ks : List (List ℕ)). Contains ks name) keys (key_from_get (slice_cmp nat_cmp) nat_list_cmp_total name_same numbers name k at));
    in_range = λ name k at.
        All-contains (λ (k : ℕ). (1 ≤ k) × (k ≤ 255)) (finmap.values numbers) k fits
        (Contains-map (λ (e : List ℕ × ℕ). e.1) (finmap.entries numbers) (name, k)
        (entry_from_get (slice_cmp nat_cmp) nat_list_cmp_total name_same numbers name k at));
    differ = λ a b k at bt.
        ap (λ (e : List ℕ × ℕ). e.0) (one_key (finmap.entries numbers) differ (a, k) (b, k)
        (entry_from_get (slice_cmp nat_cmp) nat_list_cmp_total name_same numbers a k at)
        (entry_from_get (slice_cmp nat_cmp) nat_list_cmp_total name_same numbers b k bt) refl);
  }

  module _ (num : IsNumbering layers numbers) where
    entry_at : (e : List ℕ × ℕ) → Contains (finmap.entries numbers) e → finmap.get numbers e.0 ≡ Some e.1
    entry_at e c = get_from_entry (slice_cmp nat_cmp) nat_list_cmp_total name_same numbers e c

    pub numbered_is : finmap.keys numbers ≡ finmap.keys layers
    numbered_is =
        same_rising (slice_cmp nat_cmp) nat_list_cmp_total (finmap.keys numbers) (finmap.keys layers) (Rises-keys (slice_cmp nat_cmp) numbers)
        (Rises-keys (slice_cmp nat_cmp) layers)
        (λ name. (
          λ c.
              let k = get_from_key (slice_cmp nat_cmp) nat_list_cmp_total name_same numbers name c in
              let l = num.only name k.0 k.1 in
              key_from_get (slice_cmp nat_cmp) nat_list_cmp_total name_same layers name l.0 l.1,
          λ c.
              let l = get_from_key (slice_cmp nat_cmp) nat_list_cmp_total name_same layers name c in
              let k = num.has name l.0 l.1 in
              key_from_get (slice_cmp nat_cmp) nat_list_cmp_total name_same numbers name k.0 k.1,
        ))

    pub in_range_is : All (λ k. (1 ≤ k) × (k ≤ 255)) (finmap.values numbers)
    in_range_is =
        all_from (λ (k : ℕ). (1 ≤ k) × (k ≤ 255)) (finmap.values numbers)
        (λ k c.
        let m = Contains-map_from (λ (e : List ℕ × ℕ). e.1) (finmap.entries numbers) k c in
        subst (λ (k : ℕ). (1 ≤ k) × (k ≤ 255)) m.2 (num.in_range m.0.0 m.0.1 (entry_at m.0 m.1)))

    pub differ_is : IsDistinct nat_eq (finmap.values numbers)
    differ_is =
        values_apart (finmap.entries numbers) (Rises-entries (slice_cmp nat_cmp) numbers)
        (λ d e c k same.
        let name = num.differ d.0 e.0 d.1 (entry_at d c) (entry_at e k ∙ ap Some (sym same)) in
        λ i. (name i, same i))

module _ (form n : ℕ) (rs : List Record) (layers : Map) (le : n ≤ 12) where
  pub spells_under : (s : Spells form n rs layers) → SpellsUnder form n s.numbers rs layers
  spells_under s =
      let num = numbering_from layers s.numbers s.numbered s.in_range s.differ in
      let all = records_of n s.numbers layers in record {
        map = s.map;
        numbering = num;
        ascending = subst (Rises by_key) (sym s.written) (records_ascend form n s.numbers layers le s.map num);
        written = λ r. (
          λ c. written_from n s.numbers layers r (subst (λ (l : List Record). Contains l r) s.written c),
          λ w. subst (λ (l : List Record). Contains l r) (sym s.written) (written_is n s.numbers layers r w),
        );
      }

  -- the list is the records of the map under the numbers
  pub spelled_are : (numbers : Numbering) → SpellsUnder form n numbers rs layers → rs ≡ records_of n numbers layers
  spelled_are numbers s = ascending_are form n numbers layers le s.map s.numbering rs s.ascending s.written

  pub spells_from : (numbers : Numbering) → SpellsUnder form n numbers rs layers → Spells form n rs layers
  spells_from numbers s = record {
    map = s.map;
    numbers = numbers;
    numbered = numbered_is layers numbers s.numbering;
    in_range = in_range_is layers numbers s.numbering;
    differ = differ_is layers numbers s.numbering;
    written = spelled_are numbers s;
  }
