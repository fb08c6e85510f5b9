-- The entries of a finite map as members of a list, and the members of a set that is made of a list.
use Rattle.std.proofs.Common.{◌≡◌, ◌↔◌, Bool, true, false, T, ◌&&◌, ◌⊎◌, List, [], ◌∷◌, Some, None, refl, sym, ◌∙◌, ap, subst, inl, inr, ⊎_elim, Contains}
use Rattle.std.proofs.Common.{Ordering, Less, Equal, Greater}
use Rattle.std.specs.Ordering.{is_lt, is_eq, eq_by_cmp, ordering_reverse}
use Rattle.std.specs.Cmp.{IsTotalOrder, tied_itself}
use Rattle.std.specs.FinMap as finmap
use Rattle.std.specs.FinMap.{IsAntisymmetric}
use Rattle.std.specs.FinMap.Entries as sorted
use Rattle.std.proofs.lemmas.Bool.{cases_Bool, cond-true, cond-false}
use Rattle.std.proofs.lemmas.Option.{none-some, same_Some}
use Rattle.quilt_types.specs.Sets as finset
use Rattle.quilt_loc.specs.Codes.{Rises}
use Rattle.quilt_loc.proofs.Members.{Contains-nil, Contains-here, Contains-there, Contains-cons_cases, Contains-map, Contains-map_from}
use Rattle.quilt_loc.proofs.Rising.{Rises-map}
use Rattle.quilt_types.proofs.Truths.{T-first, T-second}
use Rattle.quilt_record.proofs.Orders.{is_Equal}

less : (o : Ordering) → T (is_lt o) → o ≡ Less
less Less p = refl
less Equal p = absurd p
less Greater p = absurd p

-- entries by their keys
abbrev pub by_first : {K X : Type 0} → (K → K → Ordering) → K × X → K × X → Ordering
by_first R d e = R d.0 e.0

module _ {K : Type 0} (R : K → K → Ordering) (o : IsTotalOrder R) where
  apart_is : (k l : K) → R l k ≡ Less → eq_by_cmp R k l ≡ false
  apart_is k l h = ap is_eq (o.antisymm k l ∙ ap ordering_reverse h)

  module _ (same : IsAntisymmetric R) where
    differ_is : (q k : K) → (q ≡ k → ⊥) → eq_by_cmp R q k ≡ false
    differ_is q k d = ⊎_elim (λ t. absurd (d (same q k (is_Equal (R q k) t)))) (λ f. f) (cases_Bool (eq_by_cmp R q k))

    pub same_or_not : (q k : K) → (q ≡ k) ⊎ (q ≡ k → ⊥)
    same_or_not q k =
        ⊎_elim (λ t. inl (same q k (is_Equal (R q k) t)))
        (λ f. inr (λ e. let t : eq_by_cmp R q k ≡ true = ap is_eq (ap (λ z. R z k) e ∙ tied_itself o k) in let no : false ≡ true = sym f ∙ t in cc))
        (cases_Bool (eq_by_cmp R q k))

module _ {K X : Type 0} (R : K → K → Ordering) where
  below_are : (k : K) (es : List (K × X)) → T (sorted.below_all R k es) → (e : K × X) → Contains es e → R k e.0 ≡ Less
  below_are k [] h e c = absurd (Contains-nil e c)
  below_are k (f ∷ fs) h e c =
      ⊎_elim (λ same. subst (λ (g : K × X). R k g.0 ≡ Less) same (less _ (T-first _ _ h)))
      (λ d. below_are k fs (T-second _ _ h) e d) (Contains-cons_cases f fs e c)

  pub Rises-sorted : (es : List (K × X)) → T (sorted.is_sorted R es) → Rises (by_first R) es
  Rises-sorted [] h = tt
  Rises-sorted (e ∷ es) h = (λ f c. below_are e.0 es (T-first _ _ h) f c, Rises-sorted es (T-second _ _ h))

  pub Rises-entries : (m : finmap.FinMap R X) → Rises (by_first R) (finmap.entries m)
  Rises-entries m = Rises-sorted (finmap.entries m) (finmap.entries_sorted m)

  pub Rises-keys : (m : finmap.FinMap R X) → Rises R (finmap.keys m)
  Rises-keys m = Rises-map (by_first R) R (λ (e : K × X). e.0) (finmap.entries m) (λ a b _ _ h. h) (Rises-entries m)

  module _ (o : IsTotalOrder R) (same : IsAntisymmetric R) where
    found_is : (es : List (K × X)) (k : K) (v : X) → sorted.find R k es ≡ Some v → Contains es (k, v)
    found_is [] k v h = absurd (none-some v h)
    found_is (e ∷ es) k v h =
        ⊎_elim
        (λ t.
        let is : k ≡ e.0 = same k e.0 (is_Equal (R k e.0) t) in
        let w : e.1 ≡ v = same_Some e.1 v (sym (cond-true (eq_by_cmp R k e.0) (Some e.1) (sorted.find R k es) t) ∙ h) in
        let pair : e ≡ (k, v) = λ i. (sym is i, w i) in
        subst (Contains (e ∷ es)) pair (Contains-here e es))
        (λ f. Contains-there e es (k, v) (found_is es k v (sym (cond-false (eq_by_cmp R k e.0) (Some e.1) (sorted.find R k es) f) ∙ h)))
        (cases_Bool (eq_by_cmp R k e.0))

    found_from : (es : List (K × X)) → Rises (by_first R) es → (e : K × X) → Contains es e → sorted.find R e.0 es ≡ Some e.1
    found_from [] h e c = absurd (Contains-nil e c)
    found_from (f ∷ fs) h e c =
        ⊎_elim
        (λ is. subst (λ (g : K × X). sorted.find R g.0 (f ∷ fs) ≡ Some g.1) is
        (cond-true (eq_by_cmp R f.0 f.0) (Some f.1) (sorted.find R f.0 fs) (ap is_eq (tied_itself o f.0))))
        (λ d. cond-false (eq_by_cmp R e.0 f.0) (Some f.1) (sorted.find R e.0 fs) (apart_is R o e.0 f.0 (h.0 e d)) ∙ found_from fs h.1 e d)
        (Contains-cons_cases f fs e c)

    -- an entry is what the map answers
    pub entry_from_get : (m : finmap.FinMap R X) (k : K) (v : X) → finmap.get m k ≡ Some v → Contains (finmap.entries m) (k, v)
    entry_from_get m k v h = found_is (finmap.entries m) k v (sym (finmap.get-entries m k) ∙ h)

    pub get_from_entry : (m : finmap.FinMap R X) (e : K × X) → Contains (finmap.entries m) e → finmap.get m e.0 ≡ Some e.1
    get_from_entry m e c = finmap.get-entries m e.0 ∙ found_from (finmap.entries m) (Rises-entries m) e c

    pub key_from_get : (m : finmap.FinMap R X) (k : K) (v : X) → finmap.get m k ≡ Some v → Contains (finmap.keys m) k
    key_from_get m k v h = Contains-map (λ (e : K × X). e.0) (finmap.entries m) (k, v) (entry_from_get m k v h)

    pub get_from_key : (m : finmap.FinMap R X) (k : K) → Contains (finmap.keys m) k → (v : X) × (finmap.get m k ≡ Some v)
    get_from_key m k c =
        let r = Contains-map_from (λ (e : K × X). e.0) (finmap.entries m) k c in
        (r.0.1, ap (finmap.get m) (sym r.2) ∙ get_from_entry m r.0 r.1)

    -- what an insertion and a removal answer
    pub get_inserted : (m : finmap.FinMap R X) (k : K) (v : X) → finmap.get (finmap.insert m k v) k ≡ Some v
    get_inserted m k v = finmap.get-insert o m k v k ∙ cond-true (eq_by_cmp R k k) (Some v) (finmap.get m k) (ap is_eq (tied_itself o k))

    pub get_others : (m : finmap.FinMap R X) (k : K) (v : X) (q : K) → (q ≡ k → ⊥) → finmap.get (finmap.insert m k v) q ≡ finmap.get m q
    get_others m k v q d = finmap.get-insert o m k v q ∙ cond-false (eq_by_cmp R q k) (Some v) (finmap.get m q) (differ_is R o same q k d)

    pub get_removed : (m : finmap.FinMap R X) (k : K) → finmap.get (finmap.remove m k) k ≡ None
    get_removed m k = finmap.get-remove o m k k ∙ cond-true (eq_by_cmp R k k) None (finmap.get m k) (ap is_eq (tied_itself o k))

    pub get_kept : (m : finmap.FinMap R X) (k q : K) → (q ≡ k → ⊥) → finmap.get (finmap.remove m k) q ≡ finmap.get m q
    get_kept m k q d = finmap.get-remove o m k q ∙ cond-false (eq_by_cmp R q k) None (finmap.get m q) (differ_is R o same q k d)

module _ {K : Type 0} (R : K → K → Ordering) (o : IsTotalOrder R) (same : IsAntisymmetric R) where
  item_is : (s : finset.FinSet R) (k : K) → Contains (finset.items s) k ↔ (finmap.get s k ≡ Some tt)
  item_is s k = (
    λ c. let g = get_from_key R o same s k c in g.1,
    λ h. key_from_get R o same s k tt h,
  )

  -- the members of a set that is made of a list
  pub member_from_list : (ks : List K) (k : K) → Contains (finset.items (finset.from_list {R = R} ks)) k → Contains ks k
  member_from_list [] k c = absurd (none-some tt (sym (finmap.get-empty {X = Unit {0}} R k) ∙ (item_is finset.empty k).0 c))
  member_from_list (l ∷ ls) k c =
      ⊎_elim (λ e. subst (Contains (l ∷ ls)) (sym e) (Contains-here l ls))
      (λ d. Contains-there l ls k
      (member_from_list ls k ((item_is (finset.from_list ls) k).1
      (sym (get_others R o same (finset.from_list ls) l tt k d) ∙ (item_is (finset.from_list (l ∷ ls)) k).0 c))))
      (same_or_not R o same k l)

  pub from_list_member : (ks : List K) (k : K) → Contains ks k → Contains (finset.items (finset.from_list {R = R} ks)) k
  from_list_member [] k c = absurd (Contains-nil k c)
  from_list_member (l ∷ ls) k c =
      ⊎_elim
      (λ e. (item_is (finset.from_list (l ∷ ls)) k).1 (ap (finmap.get (finset.from_list (l ∷ ls))) e ∙ get_inserted R o same (finset.from_list ls) l tt))
      (λ d. (item_is (finset.from_list (l ∷ ls)) k).1
      (get_others R o same (finset.from_list ls) l tt k d ∙ (item_is (finset.from_list ls) k).0 (from_list_member ls k (tail c d))))
      (same_or_not R o same k l)
    where
      tail : Contains (l ∷ ls) k → (k ≡ l → ⊥) → Contains ls k
      tail c d = ⊎_elim (λ e. absurd (d (sym e))) (λ m. m) (Contains-cons_cases l ls k c)

  pub items_rise : (s : finset.FinSet R) → Rises R (finset.items s)
  items_rise s = Rises-keys R s
