-- How often a page stands in a list.
use Rattle.std.proofs.Common.{◌≡◌, ◌≢◌, ℕ, ◌+◌, ◌≤◌, Bool, true, false, ◌||◌, ◌==◌, cond, List, [], ◌∷◌, ◌++◌, refl, sym, ◌∙◌, ap, subst, arith}
use Rattle.std.specs.List.{list_any}
use Rattle.std.proofs.lemmas.Bool.Decides.{nat_tests}
use Rattle.std.proofs.lemmas.List.{append-nil}
use Rattle.quilt_btree.specs.Subtree.{AreFreshPages}
use Rattle.quilt_btree.specs.Edits.{multiplicity}
use Rattle.quilt_btree.proofs.lists.Rows.{is_in}

pub times-append : (p : ℕ) (xs ys : List ℕ) → multiplicity p (xs ++ ys) ≡ multiplicity p xs + multiplicity p ys
times-append p [] ys = omega arith
times-append p (x ∷ xs) ys =
    let more = times-append p xs ys in
    joined (cond {A = ℕ} (x == p) 1 0) (multiplicity p (xs ++ ys)) (multiplicity p xs) (multiplicity p ys) more
  where
    joined : (a b c d : ℕ) → b ≡ c + d → a + b ≡ a + c + d
    joined a b c d h = omega arith

-- three lists one behind the other
pub times-three : (p : ℕ) (xs ys zs : List ℕ) → multiplicity p ((xs ++ ys) ++ zs) ≡ multiplicity p xs + multiplicity p ys + multiplicity p zs
times-three p xs ys zs = times-append p (xs ++ ys) zs ∙ ap (λ n. n + multiplicity p zs) (times-append p xs ys)

-- each page stands there at most once
abbrev pub IsOnce : List ℕ → Type 0
IsOnce used = (p : ℕ) → multiplicity p used ≤ 1

pub equal_pages : (q p : ℕ) → (q == p) ≡ true → q ≡ p
equal_pages q p h = grind (arith, nat_tests)

pub other_pages : (q p : ℕ) → (q == p) ≡ false → p ≢ q
other_pages q p h = grind (arith, nat_tests)

pub self_test : (q : ℕ) → (q == q) ≡ true
self_test q = grind (arith, nat_tests)

pub other_test : (q p : ℕ) → p ≢ q → (q == p) ≡ false
other_test q p h = grind (arith, nat_tests)

pub some_not_none : (n : ℕ) → 1 ≤ n → n ≡ 0 → ⊥
some_not_none n h e = omega arith

-- a page that stands there first, and one that does not
pub times_here : (p : ℕ) (used : List ℕ) → multiplicity p (p ∷ used) ≡ 1 + multiplicity p used
times_here p used = ap (λ b. cond {A = ℕ} b 1 0 + multiplicity p used) (self_test p)

pub once_here : (p : ℕ) → 1 ≤ multiplicity p (p ∷ [])
once_here p = let e = times_here p [] in omega arith

pub times_other : (p q : ℕ) (used : List ℕ) → p ≢ q → multiplicity p (q ∷ used) ≡ multiplicity p used
times_other p q used ne = ap (λ b. cond {A = ℕ} b 1 0 + multiplicity p used) (other_test q p ne) ∙ nothing (multiplicity p used)
  where
    nothing : (n : ℕ) → 0 + n ≡ n
    nothing n = omega arith

none_step : (x p : ℕ) (xs : List ℕ) (b : Bool) → (b || list_any (λ v. v == p) xs) ≡ false → (list_any (λ v. v == p) xs ≡ false → multiplicity p xs ≡ 0)
    → cond b 1 0 + multiplicity p xs ≡ 0
none_step x p xs true h f = cc
none_step x p xs false h f = let more = f h in omega arith

pub none_there : (p : ℕ) (xs : List ℕ) → list_any (λ v. v == p) xs ≡ false → multiplicity p xs ≡ 0
none_there p [] h = refl
none_there p (x ∷ xs) h = none_step x p xs (x == p) h (none_there p xs)

there_step : (x p : ℕ) (xs : List ℕ) (b : Bool) → cond b 1 0 + multiplicity p xs ≡ 0 → (multiplicity p xs ≡ 0 → list_any (λ v. v == p) xs ≡ false)
    → (b || list_any (λ v. v == p) xs) ≡ false
there_step x p xs true h f = absurd (omega arith)
there_step x p xs false h f = f (omega arith)

pub not_there : (p : ℕ) (xs : List ℕ) → multiplicity p xs ≡ 0 → list_any (λ v. v == p) xs ≡ false
not_there p [] h = refl
not_there p (x ∷ xs) h = there_step x p xs (x == p) h (not_there p xs)

in_step : (x p : ℕ) (xs : List ℕ) (b : Bool) → (b || is_in p xs) ≡ true → (is_in p xs ≡ true → 1 ≤ multiplicity p xs) → 1 ≤ cond b 1 0 + multiplicity p xs
in_step x p xs true h f = omega arith
in_step x p xs false h f = let t = f h in omega arith

pub in_times : (p : ℕ) (xs : List ℕ) → is_in p xs ≡ true → 1 ≤ multiplicity p xs
in_times p [] h = cc
in_times p (x ∷ xs) h = in_step x p xs (x == p) h (in_times p xs)

once_step : (q p : ℕ) (used : List ℕ) (b : Bool) → (q == p) ≡ b → multiplicity q used ≡ 0 → multiplicity p used ≤ 1 → cond b 1 0 + multiplicity p used ≤ 1
once_step q p used true e z h = let s : multiplicity p used ≡ 0 = subst (λ n. multiplicity n used ≡ 0) (equal_pages q p e) z in omega arith
once_step q p used false e z h = omega arith

-- pages that are fresh stand there once
pub once_from_fresh : (used : List ℕ) → AreFreshPages used [] → IsOnce used
once_from_fresh [] f p = omega arith
once_from_fresh (q ∷ used) f p =
    let away : list_any (λ v. v == q) used ≡ false = subst (λ l. list_any (λ v. v == q) l ≡ false) (append-nil used) f.0 in
    once_step q p used (q == p) refl (none_there q used away) (once_from_fresh used f.1 p)

once_first : (q : ℕ) (used : List ℕ) → multiplicity q (q ∷ used) ≤ 1 → multiplicity q used ≡ 0
once_first q used h = let e = times_here q used in omega arith

once_rest : (q p : ℕ) (used : List ℕ) (b : Bool) → cond b 1 0 + multiplicity p used ≤ 1 → multiplicity p used ≤ 1
once_rest q p used true h = omega arith
once_rest q p used false h = omega arith

pub fresh_from_once : (used : List ℕ) → IsOnce used → AreFreshPages used []
fresh_from_once [] f = tt
fresh_from_once (q ∷ used) f = (
  subst (λ l. list_any (λ v. v == q) l ≡ false) (sym (append-nil used)) (not_there q used (once_first q used (f q))),
  fresh_from_once used (λ p. once_rest q p used (q == p) (f p)),
)
