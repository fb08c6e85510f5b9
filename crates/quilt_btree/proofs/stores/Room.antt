-- How many pages are free.
use Rattle.std.proofs.Common.{◌≡◌, ◌≢◌, ℕ, zero, suc, ◌+◌, ◌-◌, ◌<◌, ◌≤◌, Bool, true, false, ◌==◌, cond, List, [], ◌∷◌, length, refl, sym, ◌∙◌, ap, subst}
use Rattle.std.proofs.Common.{arith}
use Rattle.std.specs.Prelude.{filter}
use Rattle.std.specs.List.{range_with_len}
use Rattle.quilt_store.specs.Store.{FreesOnly, count_free}
use Rattle.quilt_btree.specs.Edits.{multiplicity, account}
use Rattle.quilt_btree.proofs.lists.Counts.{times_here, times_other, equal_pages, other_pages}

filter_length : (free : ℕ → Bool) (x : ℕ) (xs : List ℕ) (b : Bool) → free x ≡ b → length (filter free (x ∷ xs)) ≡ cond {A = ℕ} b 1 0 + length (filter free xs)
filter_length free x xs b e = ap (λ c. length (cond c (x ∷ filter free xs) (filter free xs))) e ∙ counted b (filter free xs)
  where
    counted : (b : Bool) (l : List ℕ) → length (cond b (x ∷ l) l) ≡ cond {A = ℕ} b 1 0 + length l
    counted true l = omega arith
    counted false l = omega arith

-- how often a page stands among those from one on
pub times_below : (p a n : ℕ) → p < a → multiplicity p (range_with_len a n) ≡ 0
times_below p a zero lt = refl
times_below p a (suc n) lt =
    let ne : p ≢ a = omega arith in
    let less : p < a + 1 = omega arith in
    times_other p a (range_with_len (a + 1) n) ne ∙ times_below p (a + 1) n less

first_or_later : (p a n : ℕ) → a ≤ p → p < a + suc n → (a + 1 ≤ p → p < a + 1 + n → multiplicity p (range_with_len (a + 1) n) ≡ 1) → (b : Bool)
    → (a == p) ≡ b → multiplicity p (range_with_len a (suc n)) ≡ 1
first_or_later p a n low high later true e =
    let same : a ≡ p = equal_pages a p e in
    let less : p < a + 1 = omega arith in
    one (multiplicity p (a ∷ range_with_len (a + 1) n)) (multiplicity p (range_with_len (a + 1) n))
    (subst (λ q. multiplicity p (q ∷ range_with_len (a + 1) n) ≡ 1 + multiplicity p (range_with_len (a + 1) n)) (sym same) (times_here p (range_with_len (a + 1) n)))
    (times_below p (a + 1) n less)
  where
    one : (m t : ℕ) → m ≡ 1 + t → t ≡ 0 → m ≡ 1
    one m t e f = omega arith
first_or_later p a n low high later false e =
    let ne : p ≢ a = other_pages a p e in
    let above : a + 1 ≤ p = omega arith in
    let under : p < a + 1 + n = omega arith in
    times_other p a (range_with_len (a + 1) n) ne ∙ later above under

pub times_in_range : (p a n : ℕ) → a ≤ p → p < a + n → multiplicity p (range_with_len a n) ≡ 1
times_in_range p a zero low high = absurd (omega arith)
times_in_range p a (suc n) low high = first_or_later p a n low high (λ above under. times_in_range p (a + 1) n above under) (a == p) refl

freed : (page : ℕ) (old new : ℕ → Bool) → FreesOnly page false old new → old page ≡ true → (xs : List ℕ)
    → length (filter new xs) + multiplicity page xs ≡ length (filter old xs)
freed page old new f t [] = refl
freed page old new f t (x ∷ xs) = step (freed page old new f t xs) (x == page) refl
  where
    here : {a b : ℕ} (c : ℕ) {d m : ℕ} (n : ℕ) → a ≡ 0 + c → b ≡ 1 + d → m ≡ 1 + n → c + n ≡ d → a + m ≡ b
    here c n e g h k = omega arith

    other : {a b : ℕ} (c : ℕ) {d m n : ℕ} (k : ℕ) → a ≡ k + c → b ≡ k + d → m ≡ n → c + n ≡ d → a + m ≡ b
    other c k e g h l = omega arith

    step : length (filter new xs) + multiplicity page xs ≡ length (filter old xs)
        → (b : Bool) → (x == page) ≡ b → length (filter new (x ∷ xs)) + multiplicity page (x ∷ xs) ≡ length (filter old (x ∷ xs))
    step more true e =
        let same : x ≡ page = equal_pages x page e in
        here (length (filter new xs))
        (multiplicity page xs)
        (filter_length new x xs false (ap new same ∙ f.here)) (filter_length old x xs true (ap old same ∙ t))
        (subst (λ q. multiplicity page (q ∷ xs) ≡ 1 + multiplicity page xs) (sym same) (times_here page xs)) more
    step more false e =
        let ne : page ≢ x = other_pages x page e in
        let turned : x ≢ page = λ g. ne (sym g) in
        other (length (filter new xs))
        (cond {A = ℕ} (old x) 1 0)
        (filter_length new x xs (old x) (f.others x turned)) (filter_length old x xs (old x) refl) (times_other page x xs ne) more

-- one page fewer is free where one was taken
pub count_taken : (page size : ℕ) (old new : ℕ → Bool) → 1 ≤ page → page < size → old page ≡ true → FreesOnly page false old new
    → count_free new size + 1 ≡ count_free old size
count_taken page size old new low high t f =
    let under : page < 1 + (size - 1) = omega arith in
    one_less (count_free new size) (count_free old size) (multiplicity page (range_with_len 1 (size - 1))) (times_in_range page 1 (size - 1) low under)
    (freed page old new f t (range_with_len 1 (size - 1)))
  where
    one_less : (n o t : ℕ) → t ≡ 1 → n + t ≡ o → n + 1 ≡ o
    one_less n o t e h = omega arith

-- how often the pages of a list are used, together
abbrev pub total : List ℕ → List ℕ → ℕ
total used [] = 0
total used (x ∷ xs) = multiplicity x used + total used xs

total_none : (xs : List ℕ) → total [] xs ≡ 0
total_none [] = refl
total_none (x ∷ xs) = let more = total_none xs in omega arith

total_more : (q : ℕ) (used xs : List ℕ) → total (q ∷ used) xs ≡ multiplicity q xs + total used xs
total_more q used [] = refl
total_more q used (x ∷ xs) =
    let more = total_more q used xs in
    step (q == x) refl more
  where
    here : {a b : ℕ} (t : ℕ) {u : ℕ} (v w : ℕ) → a ≡ 1 + t → b ≡ 1 + v → u ≡ v + w → a + u ≡ b + (t + w)
    here t v w e f g = omega arith

    other : {a b : ℕ} (t : ℕ) {u : ℕ} (v w : ℕ) → a ≡ t → b ≡ v → u ≡ v + w → a + u ≡ b + (t + w)
    other t v w e f g = omega arith

    step : (b : Bool) → (q == x) ≡ b → total (q ∷ used) xs ≡ multiplicity q xs + total used xs
        → multiplicity x (q ∷ used) + total (q ∷ used) xs ≡ multiplicity q (x ∷ xs) + (multiplicity x used + total used xs)
    step true e more =
        let same : q ≡ x = equal_pages q x e in
        here (multiplicity x used) (multiplicity q xs) (total used xs)
        (subst (λ p. multiplicity x (p ∷ used) ≡ 1 + multiplicity x used) (sym same) (times_here x used))
        (subst (λ p. multiplicity q (p ∷ xs) ≡ 1 + multiplicity q xs) same (times_here q xs)) more
    step false e more =
        let ne : x ≢ q = other_pages q x e in
        other (multiplicity x used) (multiplicity q xs) (total used xs) (times_other x q used ne)
        (times_other q x xs (λ g. ne (sym g))) more

once_in_range : (q a n : ℕ) → multiplicity q (range_with_len a n) ≤ 1
once_in_range q a zero = omega arith
once_in_range q a (suc n) = step q a n (once_in_range q (a + 1) n) (a == q) refl
  where
    first : (m t : ℕ) → m ≡ 1 + t → t ≡ 0 → m ≤ 1
    first m t e f = omega arith

    rest : (m t : ℕ) → m ≡ t → t ≤ 1 → m ≤ 1
    rest m t e f = omega arith

    step : (q a n : ℕ) → multiplicity q (range_with_len (a + 1) n) ≤ 1 → (b : Bool) → (a == q) ≡ b → multiplicity q (range_with_len a (suc n)) ≤ 1
    step q a n more true e =
        let same : a ≡ q = equal_pages a q e in
        let less : q < a + 1 = omega arith in
        first (multiplicity q (a ∷ range_with_len (a + 1) n)) (multiplicity q (range_with_len (a + 1) n))
        (subst (λ p. multiplicity q (p ∷ range_with_len (a + 1) n) ≡ 1 + multiplicity q (range_with_len (a + 1) n)) (sym same) (times_here q (range_with_len (a + 1) n)))
        (times_below q (a + 1) n less)
    step q a n more false e =
        rest (multiplicity q (a ∷ range_with_len (a + 1) n)) (multiplicity q (range_with_len (a + 1) n)) (times_other q a (range_with_len (a + 1) n) (other_pages a q e)) more

total_most : (used : List ℕ) (a n : ℕ) → total used (range_with_len a n) ≤ length used
total_most [] a n = let e = total_none (range_with_len a n) in omega arith
total_most (q ∷ used) a n =
    summed (total (q ∷ used) (range_with_len a n)) (multiplicity q (range_with_len a n)) (total used (range_with_len a n)) (length used)
    (total_more q used (range_with_len a n)) (once_in_range q a n) (total_most used a n)
  where
    summed : (t m u l : ℕ) → t ≡ m + u → m ≤ 1 → u ≤ l → t ≤ suc l
    summed t m u l e f g = omega arith

accounted : (free : ℕ → Bool) (used : List ℕ) (a n : ℕ) → ((p : ℕ) → a ≤ p → p < a + n → account free used p ≡ 1)
    → length (filter free (range_with_len a n)) + total used (range_with_len a n) ≡ n
accounted free used a zero f = refl
accounted free used a (suc n) f =
    let self : a ≤ a = omega arith in
    let inside : a < a + suc n = omega arith in
    summed (cond {A = ℕ} (free a) 1 0) (length (filter free (range_with_len (a + 1) n)))
    (multiplicity a used) (total used (range_with_len (a + 1) n))
    (filter_length free a (range_with_len (a + 1) n) (free a) refl) (f a self inside)
    (accounted free used (a + 1) n (λ p low high. f p (later a p low) (sooner a n p high)))
  where
    summed : {l : ℕ} (c m t u : ℕ) {n : ℕ} → l ≡ c + m → c + t ≡ 1 → m + u ≡ n → l + (t + u) ≡ suc n
    summed c m t u e f g = omega arith

    later : (a p : ℕ) → a + 1 ≤ p → a ≤ p
    later a p h = omega arith

    sooner : (a n p : ℕ) → p < a + 1 + n → p < a + suc n
    sooner a n p h = omega arith

-- Where each page from 1 on is free or used once, the pages that are free are those that are left.
pub count_left : (free : ℕ → Bool) (used : List ℕ) (size : ℕ) → 1 ≤ size → ((p : ℕ) → 1 ≤ p → p < size → account free used p ≡ 1)
    → size ≤ count_free free size + length used + 1
count_left free used size some f =
    let same : 1 + (size - 1) ≡ size = omega arith in
    summed (count_free free size) (total used (range_with_len 1 (size - 1))) (length used) (size - 1) size
    (accounted free used 1 (size - 1) (λ p low high. f p low (subst (λ n. p < n) same high))) (total_most used 1 (size - 1)) same
  where
    summed : (c t l m s : ℕ) → c + t ≡ m → t ≤ l → 1 + m ≡ s → s ≤ c + l + 1
    summed c t l m s e f g = omega arith
