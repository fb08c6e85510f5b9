-- Finite sets: `contains` and `items`, `from_list`, and how many items pass a test.
use Rattle.std.proofs.Common.{◌⊎◌, not, fold, None, inl, inr, ◌≡◌, ℕ, ◌≤◌, Bool, true, false, cond, ◌&&◌, ◌||◌, ◌↔◌, List, [], ◌∷◌, map, get_or, is_some}
use Rattle.std.proofs.Common.{Option, Some, refl, sym, ◌∙◌, ap, subst, arith, Contains, count_by, Ordering, T, ⊎_elim, true≢false}
use Rattle.std.specs.Ordering.{is_lt, eq_by_cmp}
use Rattle.std.specs.FinMap as finmap
use Rattle.std.specs.FinMap.{IsAntisymmetric}
use Rattle.std.specs.Cmp.{IsTotalOrder, tied_itself, Equal-is}
use Rattle.std.specs.List.{list_any}
use Rattle.std.proofs.lemmas.Bool.{and_parts, and_from, not-true, not_from_false, both_ways, cases_Bool, or_cases, or_left, or_right}
use Rattle.std.proofs.lemmas.List.Sums.{sum_by-cons, get_or-le-sum_by}
use Rattle.quilt_types.specs.Sets as sets
use Rattle.quilt_loc.proofs.Members.{Contains-nil, Contains-here, Contains-there, Contains-cons_cases}
use Rattle.quilt_types.proofs.Truths.{T-first, T-second}

is_some-cond : {X : Type 0} (b : Bool) (x : X) (o : Option X) → is_some (cond b (Some x) o) ≡ (b || is_some o)
is_some-cond true x o = refl
is_some-cond false x o = refl

module _ {K : Type 0} {R : K → K → Ordering} (o : IsTotalOrder R) (exact : IsAntisymmetric R) where
  tie : (a b : K) → eq_by_cmp R a b ≡ true → a ≡ b
  tie a b e = exact a b ((Equal-is (R a b)).0 e)

  itself : (a : K) → eq_by_cmp R a a ≡ true
  itself a = (Equal-is (R a a)).1 (tied_itself o a)

  list_any_is : (ks : List K) (q : K) → (list_any (eq_by_cmp R q) ks ≡ true) ↔ Contains ks q
  list_any_is [] q = (λ h. absurd (true≢false (sym h)), λ c. absurd (Contains-nil q c))
  list_any_is (k ∷ ks) q = (
    λ h. ⊎_elim (λ e. subst (Contains (k ∷ ks)) (sym (tie q k e)) (Contains-here k ks)) (λ r. Contains-there k ks q ((list_any_is ks q).0 r))
        (or_cases (eq_by_cmp R q k) (list_any (eq_by_cmp R q) ks) h),
    λ c. ⊎_elim (λ e. or_left (eq_by_cmp R q k) (list_any (eq_by_cmp R q) ks) (subst (λ (z : K). eq_by_cmp R z k ≡ true) e (itself k)))
        (λ d. or_right (eq_by_cmp R q k) (list_any (eq_by_cmp R q) ks) ((list_any_is ks q).1 d)) (Contains-cons_cases k ks q c),
  )

  pub contains_is : (s : sets.FinSet R) (q : K) → (sets.contains s q ≡ true) ↔ Contains (sets.items s) q
  contains_is s q =
      let e = finmap.contains_key-keys s q in
      (λ h. (list_any_is (sets.items s) q).0 (sym e ∙ h), λ c. e ∙ (list_any_is (sets.items s) q).1 c)

  contains-from_list : (ks : List K) (q : K) → sets.contains (sets.from_list {R = R} ks) q ≡ list_any (eq_by_cmp R q) ks
  contains-from_list [] q = ap is_some (finmap.get-empty R q)
  contains-from_list (k ∷ ks) q =
      ap is_some (finmap.get-insert o (sets.from_list {R = R} ks) k tt q) ∙ is_some-cond (eq_by_cmp R q k) tt (finmap.get (sets.from_list {R = R} ks) q)
      ∙ ap (λ b. eq_by_cmp R q k || b) (contains-from_list ks q)

  -- the items of the set of a list are the list's
  pub items-from_list : (ks : List K) (q : K) → Contains (sets.items (sets.from_list {R = R} ks)) q ↔ Contains ks q
  items-from_list ks q =
      let e = contains-from_list ks q in
      let s = sets.from_list {R = R} ks in
      (λ c. (list_any_is ks q).0 (sym e ∙ (contains_is s q).1 c), λ c. (contains_is s q).0 (e ∙ (list_any_is ks q).1 c))

  pub items-insert : (s : sets.FinSet R) (k q : K) → Contains (sets.items (sets.insert s k)) q ↔ ((q ≡ k) ⊎ Contains (sets.items s) q)
  items-insert s k q =
      let e : sets.contains (sets.insert s k) q ≡ (eq_by_cmp R q k || sets.contains s q) =
      ap is_some (finmap.get-insert o s k tt q) ∙ is_some-cond (eq_by_cmp R q k) tt (finmap.get s q) in (
        λ c. ⊎_elim (λ t. inl (tie q k t)) (λ t. inr ((contains_is s q).0 t))
            (or_cases (eq_by_cmp R q k) (sets.contains s q) (sym e ∙ (contains_is (sets.insert s k) q).1 c)),
        λ w. (contains_is (sets.insert s k) q).0
            (e ∙ ⊎_elim (λ is. or_left (eq_by_cmp R q k) (sets.contains s q) (subst (λ (z : K). eq_by_cmp R q z ≡ true) is (itself q)))
            (λ c. or_right (eq_by_cmp R q k) (sets.contains s q) ((contains_is s q).1 c)) w),
      )

  is_some-none : {X : Type 0} (b : Bool) (x : Option X) → is_some (cond b None x) ≡ (not b && is_some x)
  is_some-none true x = refl
  is_some-none false x = refl

  pub items-remove : (s : sets.FinSet R) (k q : K) → Contains (sets.items (sets.remove s k)) q ↔ (Contains (sets.items s) q × (q ≡ k → ⊥))
  items-remove s k q =
      let e : sets.contains (sets.remove s k) q ≡ (not (eq_by_cmp R q k) && sets.contains s q) =
      ap is_some (finmap.get-remove o s k q) ∙ is_some-none (eq_by_cmp R q k) (finmap.get s q) in (
        λ c.
            let both = and_parts (not (eq_by_cmp R q k)) (sets.contains s q) (sym e ∙ (contains_is (sets.remove s k) q).1 c) in (
              (contains_is s q).0 both.1,
              λ is. both_ways (eq_by_cmp R q k) (not-true (eq_by_cmp R q k) both.0)
                  (subst (λ (z : K). eq_by_cmp R q z ≡ true) is (itself q)),
            ),
        λ w. (contains_is (sets.remove s k) q).0 (e ∙ and_from (not (eq_by_cmp R q k)) (sets.contains s q)
            (⊎_elim (λ t. absurd (w.1 (tie q k t))) (λ f. not_from_false (eq_by_cmp R q k) f) (cases_Bool (eq_by_cmp R q k))) ((contains_is s q).1 w.0)),
      )

  pub items-removes : (ks : List K) (s : sets.FinSet R) (q : K) → Contains (sets.items (fold sets.remove s ks)) q
      ↔ (Contains (sets.items s) q × (Contains ks q → ⊥))
  items-removes [] s q = (λ c. (c, λ d. Contains-nil q d), λ w. w.0)
  items-removes (k ∷ ks) s q =
      let rest = items-removes ks (sets.remove s k) q in
      let here = items-remove s k q in (
        λ c. let r = rest.0 c in let h = here.0 r.0 in (h.0, λ d. ⊎_elim (λ is. h.1 (sym is)) (λ m. r.1 m) (Contains-cons_cases k ks q d)),
        λ w. rest.1 (here.1 (w.0, λ is. w.1 (subst (Contains (k ∷ ks)) (sym is) (Contains-here k ks))), λ m. w.1 (Contains-there k ks q m)),
      )

  -- of keys that strictly rise at most one passes a test, where those that pass are equal
  module _ {X : Type 0} (test : K → Bool) where
    abbrev keys_of : List (K × X) → List K
    keys_of es = map (λ e. e.0) es

    later : (k : K) (es : List (K × X)) → ((x : K) → Contains (keys_of es) x → test x ≡ true → k ≡ x) → T (finmap.Entries.below_all R k es)
        → count_by test (keys_of es) ≡ 0
    later k [] same s = refl
    later k (e ∷ es) same s =
        let c = sum_by-cons (λ x. cond {A = ℕ} (test x) 1 0) e.0 (keys_of es) in
        let rest = later k es (λ x m t. same x (Contains-there e.0 (keys_of es) x m) t) (T-second (is_lt (R k e.0)) _ s) in
        let lt = T-first (is_lt (R k e.0)) _ s in
        ⊎_elim
        (λ t. absurd (subst (λ r. T (is_lt r)) (ap (R k) (sym (same e.0 (Contains-here e.0 (keys_of es)) t)) ∙ tied_itself o k) lt))
        (λ f. c ∙ (let z : cond {A = ℕ} (test e.0) 1 0 ≡ 0 = ap (λ (b : Bool). cond {A = ℕ} b 1 0) f in omega arith)) (cases_Bool (test e.0))

    at_most_one : (es : List (K × X)) → ((a b : K) → Contains (keys_of es) a → test a ≡ true → Contains (keys_of es) b → test b ≡ true → a ≡ b)
        → T (finmap.is_sorted R es) → count_by test (keys_of es) ≤ 1
    at_most_one [] same s = omega arith
    at_most_one (e ∷ es) same s =
        let c = sum_by-cons (λ x. cond {A = ℕ} (test x) 1 0) e.0 (keys_of es) in
        let more = λ (x : K) (m : Contains (keys_of es) x). Contains-there e.0 (keys_of es) x m in
        ⊎_elim
        (λ t.
        let z : cond {A = ℕ} (test e.0) 1 0 ≡ 1 = ap (λ (b : Bool). cond {A = ℕ} b 1 0) t in
        let none =
        later e.0 es (λ x m u. same e.0 x (Contains-here e.0 (keys_of es)) t (more x m) u) (T-first (finmap.Entries.below_all R e.0 es) _ s) in omega arith)
        (λ f.
        let z : cond {A = ℕ} (test e.0) 1 0 ≡ 0 = ap (λ (b : Bool). cond {A = ℕ} b 1 0) f in
        let rest = at_most_one es (λ a b m t l u. same a b (more a m) t (more b l) u) (T-second (finmap.Entries.below_all R e.0 es) _ s) in omega arith)
        (cases_Bool (test e.0))

    -- exactly one key passes
    pub keys_once : (m : finmap.FinMap R X) (k : K) → Contains (finmap.keys m) k → test k ≡ true
        → ((a b : K) → Contains (finmap.keys m) a → test a ≡ true → Contains (finmap.keys m) b → test b ≡ true → a ≡ b) → count_by test (finmap.keys m) ≡ 1
    keys_once m k c t same =
        let most = at_most_one (finmap.entries m) same (finmap.entries_sorted m) in
        let least = get_or-le-sum_by (λ x. cond {A = ℕ} (test x) 1 0) (finmap.keys m) c.0 k c.1 in
        let here : cond {A = ℕ} (test (get_or (finmap.keys m) c.0 k)) 1 0 ≡ 1 =
        ap (λ (z : K). cond {A = ℕ} (test z) 1 0) c.2 ∙ ap (λ (b : Bool). cond {A = ℕ} b 1 0) t in
        omega arith
