-- How many of the pages are free.
use Rattle.std.proofs.Common.{◌≡◌, ℕ, zero, suc, ◌+◌, ◌-◌, ◌<◌, ◌≤◌, Bool, true, false, cond, List, [], ◌∷◌, ◌++◌, Some, None, IsSome, length, get_or, set}
use Rattle.std.proofs.Common.{refl, sym, ◌∙◌, ap, subst, append_assoc, length-append, length-set, get_or-set_other, arith, nat_lt, replicate, zero-add, one-add, ◌⊎◌, inl, inr}
use Rattle.std.specs.Prelude.{drop, filter, position}
use Rattle.std.specs.List.{range_with_len, position_or_len}
use Rattle.std.proofs.Math.Seq.{get_or-append_seam}
use Rattle.std.proofs.lemmas.List.{get_or-drop, length-drop}
use Rattle.std.proofs.lemmas.List.Quantifiers.{position-Some}
use Rattle.std.proofs.lemmas.Bool.Decides.{nat_tests}
use Rattle.std.proofs.lemmas.Bool.{cases_lt, lt-ltb}
use Rattle.std.specs.Option.{is_some}
use Rattle.std.proofs.lemmas.List.{replicate-append-replicate}
use Rattle.quilt_store.specs.Store.{count_free}
use Rattle.quilt_store.specs.Memory.{is_free_place}

abbrev pub count : List Bool → ℕ
count free = length (filter (λ b. b) free)

count_cons : (b : Bool) (free : List Bool) → count (b ∷ free) ≡ cond {A = ℕ} b 1 0 + count free
count_cons true free = sym (one-add (count free))
count_cons false free = sym (zero-add (count free))

count_most : (free : List Bool) → count free ≤ length free
count_most [] = omega arith
count_most (true ∷ free) =
    let rest = count_most free in
    omega arith
count_most (false ∷ free) =
    let rest = count_most free in
    omega arith

pub count_behind : (pre xs : List Bool) (k : ℕ) → k ≡ length pre → length (filter (is_free_place (pre ++ xs)) (range_with_len k (length xs))) ≡ count xs
count_behind pre [] k e = refl
count_behind pre (x ∷ xs) k e =
    let here : is_free_place (pre ++ x ∷ xs) k ≡ x = ap (λ m. get_or (pre ++ x ∷ xs) m false) e ∙ get_or-append_seam pre x xs false in
    let next : k + 1 ≡ length (pre ++ x ∷ []) = omega (arith, e, length-append pre (x ∷ [])) in
    let rest : length (filter (is_free_place (pre ++ x ∷ xs)) (range_with_len (k + 1) (length xs))) ≡ count xs =
    ap (λ l. length (filter (is_free_place l) (range_with_len (k + 1) (length xs)))) (sym (append_assoc pre (x ∷ []) xs))
    ∙ count_behind (pre ++ x ∷ []) xs (k + 1) next in
    ap (λ b. length (cond b (k ∷ filter (is_free_place (pre ++ x ∷ xs)) (range_with_len (k + 1) (length xs)))
    (filter (is_free_place (pre ++ x ∷ xs)) (range_with_len (k + 1) (length xs))))) here
    ∙ (by_case x (filter (is_free_place (pre ++ x ∷ xs)) (range_with_len (k + 1) (length xs))) (count xs) rest ∙ sym (count_cons x xs))
  where
    by_case : (x : Bool) (l : List ℕ) (n : ℕ) → length l ≡ n → length (cond x (k ∷ l) l) ≡ cond x 1 0 + n
    by_case true l n h = ap suc h ∙ sym (one-add n)
    by_case false l n h = h ∙ sym (zero-add n)

abbrev pub AreFromOne : List Bool → ℕ → Type 0
AreFromOne free size = (page : ℕ) → is_free_place free page ≡ true → (1 ≤ page) × (page < size)

-- the pages from 1 on, where only these are free
pub count_of_free : (free : List Bool) (size : ℕ) → AreFromOne free size → length free ≡ size → 1 ≤ size → count_free (is_free_place free) size ≡ count free
count_of_free [] size f e some = absurd (omega arith)
count_of_free (true ∷ free) size f e some = absurd (none (f 0 refl).0)
  where
    none : 1 ≤ 0 → ⊥
    none h = omega arith
count_of_free (false ∷ free) size f e some =
    let n : size - 1 ≡ length free = omega arith in
    ap (λ m. length (filter (is_free_place (false ∷ free)) (range_with_len 1 m))) n ∙ count_behind (false ∷ []) free 1 refl

first_below : (free : List Bool) → 0 < count free → position_or_len (λ b. b) free < length free
first_below [] h = absurd (omega arith)
first_below (true ∷ free) h = omega arith
first_below (false ∷ free) h =
    let some : 0 < count free = omega arith in
    let rest = first_below free some in
    omega arith

-- no page before a place is free
abbrev pub NoneBelow : List Bool → ℕ → Type 0
NoneBelow free n = (page : ℕ) → page < n → is_free_place free page ≡ false

count_from : (free : List Bool) (n : ℕ) → NoneBelow free n → count (drop n free) ≡ count free
count_from free zero f = refl
count_from [] (suc n) f = refl
count_from (b ∷ free) (suc n) f =
    let none : cond {A = ℕ} b 1 0 ≡ 0 = ap (λ c. cond {A = ℕ} c 1 0) (f 0 (omega arith)) in
    let rest = count_from free n (λ page h. f (suc page) (omega arith)) in
    omega (arith, count_cons b free)

-- a page that is free is found from there on
pub found : (free : List Bool) (size n : ℕ) → AreFromOne free size → NoneBelow free n → length free ≡ size → 1 ≤ size
    → 0 < count_free (is_free_place free) size → IsSome (position (λ b. b) (drop n free))
found free size n f low e some h =
    let many : 0 < count free = subst (λ n. 0 < n) (count_of_free free size f e some) h in
    let left : 0 < count (drop n free) = subst (λ m. 0 < m) (sym (count_from free n low)) many in
    let at = position_or_len (λ b. b) (drop n free) in
    ap (λ b. is_some (cond b (Some at) None)) (lt-ltb at (length (drop n free)) (first_below (drop n free) left))

-- the page is free, and none before it is
pub record IsLowest (free : List Bool) (page : ℕ) : Type 0 where
  pub in_range : page < length free
  pub is : is_free_place free page ≡ true
  pub below : NoneBelow free page

-- the first that is free from there on
pub lowest_at : (free : List Bool) (n i : ℕ) → NoneBelow free n → position (λ b. b) (drop n free) ≡ Some i → IsLowest free (n + i)
lowest_at free n i low is =
    let p = position-Some (λ b. b) (drop n free) i false is in
    record {
      in_range = let lt = p.0 in omega (arith, length-drop n free);
      is = sym (get_or-drop n free i false) ∙ p.1;
      below = λ page h. elim (cases_lt page n) [ inl lt ↦ low page lt | inr ge ↦ ahead page h ge ];
    }
  where
    ahead : (page : ℕ) → page < n + i → n ≤ page → is_free_place free page ≡ false
    ahead page h ge =
        let p = position-Some (λ b. b) (drop n free) i false is in
        let at : n + (page - n) ≡ page = omega arith in
        subst (λ q. is_free_place free q ≡ false) at (sym (get_or-drop n free (page - n) false) ∙ p.2 (page - n) (omega arith))

-- what is written behind a place, or at it, leaves the pages before it
pub none_below : (free : List Bool) (n i m : ℕ) (b : Bool) → NoneBelow free n → m ≤ n → m ≤ i → NoneBelow (set free i b) m
none_below free n i m b low le here page h = get_or-set_other free i page b false (omega arith) ∙ low page (omega arith)

still_free : (free : List Bool) (i page : ℕ) → is_free_place (set free i false) page ≡ true → is_free_place free page ≡ true
still_free [] i page h = h
still_free (b ∷ free) zero zero h = absurd (false_true h)
  where
    false_true : false ≡ true → ⊥
    false_true e = cc
still_free (b ∷ free) zero (suc page) h = h
still_free (b ∷ free) (suc i) zero h = h
still_free (b ∷ free) (suc i) (suc page) h = still_free free i page h

count_taken : (free : List Bool) (i : ℕ) → is_free_place free i ≡ true → count free ≡ count (set free i false) + 1
count_taken [] i h = absurd (false_true h)
  where
    false_true : false ≡ true → ⊥
    false_true e = cc
count_taken (b ∷ free) zero h =
    let one : cond {A = ℕ} b 1 0 ≡ 1 = ap (λ c. cond {A = ℕ} c 1 0) h in
    omega (arith, count_cons b free, count_cons false free)
count_taken (b ∷ free) (suc i) h =
    let rest = count_taken free i h in
    omega (arith, count_cons b free, count_cons b (set free i false))

-- it is no longer free
pub taken : (free : List Bool) (size i n : ℕ) → AreFromOne free size → is_free_place free i ≡ true → n ≡ count free → (AreFromOne (set free i false) size)
    × (n - 1 ≡ count (set free i false))
taken free size i n f h e =
    let one = count_taken free i h in
    ((λ page k. f page (still_free free i page k)), omega arith)

free_or_given : (free : List Bool) (i page : ℕ) → is_free_place (set free i true) page ≡ true → (is_free_place free page ≡ true) ⊎ (page ≡ i)
free_or_given [] i page h = inl h
free_or_given (b ∷ free) zero zero h = inr refl
free_or_given (b ∷ free) zero (suc page) h = inl h
free_or_given (b ∷ free) (suc i) zero h = inl h
free_or_given (b ∷ free) (suc i) (suc page) h = elim (free_or_given free i page h) [ inl k ↦ inl k | inr e ↦ inr (ap suc e) ]

count_given : (free : List Bool) (i : ℕ) → i < length free → is_free_place free i ≡ false → count (set free i true) ≡ count free + 1
count_given [] i lt h = absurd (omega arith)
count_given (b ∷ free) zero lt h =
    let none : cond {A = ℕ} b 1 0 ≡ 0 = ap (λ c. cond {A = ℕ} c 1 0) h in
    omega (arith, count_cons b free, count_cons true free)
count_given (b ∷ free) (suc i) lt h =
    let short : i < length free = omega arith in
    let rest = count_given free i short h in
    omega (arith, count_cons b free, count_cons b (set free i true))

-- it is free again
pub given : (free : List Bool) (size i n : ℕ) → AreFromOne free size → length free ≡ size → (1 ≤ i) × (i < size) → is_free_place free i ≡ false → n ≡ count free
    → (AreFromOne (set free i true) size) × (n + 1 ≡ count (set free i true)) × (n + 1 ≤ size)
given free size i n f e lt h m =
    let short : i < length free = subst (λ k. i < k) (sym e) lt.1 in
    let one = count_given free i short h in
    let most = count_most (set free i true) in
    let same = length-set free i true in
    ((λ page k. elim (free_or_given free i page k) [ inl g ↦ f page g | inr g ↦ subst (λ p. (1 ≤ p) × (p < size)) (sym g) lt ]), omega arith, omega arith)

-- pages of a store that is being made
pub record AreFresh (pages : List (List ℕ)) (free : List Bool) (n : ℕ) : Type 0 where
  pub zeros : pages ≡ replicate n (replicate 4096 0)
  pub tests : length free ≡ n
  pub from_one : AreFromOne free n
  pub are_free : (page : ℕ) → 1 ≤ page → page < n → is_free_place free page ≡ true
  pub counted : count free ≡ n - 1

pub none_yet : AreFresh [] [] 0
none_yet = record {
  zeros = refl;
  tests = refl;
  from_one = λ page h. absurd (true_false page h);
  are_free = λ page h k. absurd (omega arith);
  counted = refl;
}
  where
    true_false : (page : ℕ) → is_free_place [] page ≡ true → ⊥
    true_false page e = cc

pushed : (free : List Bool) (b : Bool) (page : ℕ) → is_free_place (free ++ b ∷ []) page ≡ true → (is_free_place free page ≡ true) ⊎ ((page ≡ length free) × (b ≡ true))
pushed [] b zero h = inr (refl, h)
pushed [] b (suc page) h = inl h
pushed (c ∷ free) b zero h = inl h
pushed (c ∷ free) b (suc page) h = elim (pushed free b page h) [ inl k ↦ inl k | inr e ↦ inr (ap suc e.0, e.1) ]

stays : (free : List Bool) (b : Bool) (page : ℕ) → is_free_place free page ≡ true → is_free_place (free ++ b ∷ []) page ≡ true
stays [] b page h = absurd (false_true h)
  where
    false_true : false ≡ true → ⊥
    false_true e = cc
stays (c ∷ free) b zero h = h
stays (c ∷ free) b (suc page) h = stays free b page h

some_of_test : (n : ℕ) → nat_lt 0 n ≡ true → 1 ≤ n
some_of_test zero h = absurd (false_true h)
  where
    false_true : false ≡ true → ⊥
    false_true e = cc
some_of_test (suc n) h = omega arith

count_push : (free : List Bool) (b : Bool) → count (free ++ b ∷ []) ≡ count free + cond {A = ℕ} b 1 0
count_push [] b = omega (arith, count_cons b [])
count_push (c ∷ free) b =
    let rest = count_push free b in
    omega (arith, count_cons c free, count_cons c (free ++ b ∷ []))

one_counted : (n c : ℕ) (b : Bool) → b ≡ nat_lt 0 n → c ≡ n - 1 → c + cond {A = ℕ} b 1 0 ≡ n + 1 - 1
one_counted zero c b e h =
    let none : cond {A = ℕ} b 1 0 ≡ 0 = ap (λ d. cond {A = ℕ} d 1 0) e in
    omega arith
one_counted (suc n) c b e h =
    let some : 0 < suc n = omega arith in
    let one : cond {A = ℕ} b 1 0 ≡ 1 = ap (λ d. cond {A = ℕ} d 1 0) (e ∙ lt-ltb 0 (suc n) some) in
    omega arith

pub one_more : (pages : List (List ℕ)) (free : List Bool) (n : ℕ) (b : Bool) → b ≡ nat_lt 0 n → AreFresh pages free n
    → AreFresh (pages ++ replicate 4096 0 ∷ []) (free ++ b ∷ []) (n + 1)
one_more pages free n b e f = record {
  zeros = ap (λ l. l ++ replicate 4096 0 ∷ []) f.zeros ∙ replicate-append-replicate n 1 (replicate {A = ℕ} 4096 0);
  tests = length-append free (b ∷ []) ∙ ap (λ m. m + 1) f.tests;
  from_one =
      λ page h. elim (pushed free b page h) [ inl k ↦ earlier page (f.from_one page k) | inr at ↦ last page (at.0 ∙ f.tests) (some_of_test n (sym e ∙ at.1)) ];
  are_free = λ page h k. elim (cases_lt page n) [ inl lt ↦ stays free b page (f.are_free page h lt) | inr ge ↦ here page h k ge ];
  counted = count_push free b ∙ one_counted n (count free) b e f.counted;
}
  where
    earlier : (page : ℕ) → (1 ≤ page) × (page < n) → (1 ≤ page) × (page < n + 1)
    earlier page h = (h.0, omega arith)

    last : (page : ℕ) → page ≡ n → 1 ≤ n → (1 ≤ page) × (page < n + 1)
    last page g h = (omega arith, omega arith)

    here : (page : ℕ) → 1 ≤ page → page < n + 1 → n ≤ page → is_free_place (free ++ b ∷ []) page ≡ true
    here page h k ge =
        let at : page ≡ length free = omega (arith, f.tests) in
        let some : 0 < n = omega arith in
        ap (is_free_place (free ++ b ∷ [])) at ∙ get_or-append_seam free b [] false ∙ e ∙ lt-ltb 0 n some
