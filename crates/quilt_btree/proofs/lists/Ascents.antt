-- Two keys tell whether ascending lists ascend one behind the other, and whether a key fits in the place of another.
use Rattle.std.proofs.Common.{◌≡◌, ℕ, zero, suc, ◌-◌, ◌<◌, ◌≤◌, Bool, true, false, ◌&&◌, List, [], ◌∷◌, ◌++◌, length, Option, Some, None, refl, sym, ◌∙◌, ap}
use Rattle.std.proofs.lemmas.Bool.{and_parts}
use Rattle.std.proofs.Common.{subst, arith}
use Rattle.std.specs.Prelude.{slice_get, slice_set}
use Rattle.std.specs.Ordering.{is_lt}
use Rattle.std.proofs.lemmas.Option.{same_Some}
use Rattle.quilt_record.specs.declared.key.Key.{Key}
use Rattle.quilt_record.specs.declared.record.Record.{Record}
use Rattle.quilt_record.specs.Records.{key_cmp}
use Rattle.quilt_node.specs.Pages.{is_ascending}
use Rattle.quilt_node.specs.Nodes.{keys_of}
use Rattle.quilt_btree.proofs.subtrees.Trees.{ascending_rest, keys_append}

and_true : (a b : Bool) → a ≡ true → (a && b) ≡ b
and_true true b h = refl
and_true false b h = cc

true_end : (a b : Bool) → b ≡ true → (a && b) ≡ a
true_end true b h = h
true_end false b h = refl

pub ascending_cat : (xs : List Key) (ys : List Key) (x y : Key) → slice_get xs (length xs - 1) ≡ Some x → is_ascending xs ≡ true
    → is_ascending (xs ++ y ∷ ys) ≡ (is_lt (key_cmp x y) && is_ascending (y ∷ ys))
ascending_cat [] ys x y h a = cc
ascending_cat (z ∷ []) ys x y h a = let same : z ≡ x = cc in ap (λ w. is_lt (key_cmp w y) && is_ascending (y ∷ ys)) same
ascending_cat (z ∷ w ∷ zs) ys x y h a =
    let e : length (z ∷ w ∷ zs) - 1 ≡ suc (length (w ∷ zs) - 1) = omega arith in
    let last : slice_get (w ∷ zs) (length (w ∷ zs) - 1) ≡ Some x = subst (λ n. slice_get (z ∷ w ∷ zs) n ≡ Some x) e h in
    let t = and_parts (is_lt (key_cmp z w)) (is_ascending (w ∷ zs)) a in
    and_true (is_lt (key_cmp z w)) (is_ascending (w ∷ (zs ++ y ∷ ys))) t.0 ∙ ascending_cat (w ∷ zs) ys x y last t.1

key_at_place : (rs : List Record) (i : ℕ) (r : Record) → slice_get rs i ≡ Some r → slice_get (keys_of rs) i ≡ Some r.key
key_at_place [] i r h = cc
key_at_place (s ∷ rs) zero r h = let same : s ≡ r = cc in ap (λ (t : Record). Some t.key) same
key_at_place (s ∷ rs) (suc i) r h = key_at_place rs i r h

pub keys_length : (rs : List Record) → length (keys_of rs) ≡ length rs
keys_length [] = refl
keys_length (r ∷ rs) = ap suc (keys_length rs)

-- records of two leaves
pub leaves_test : (l r : List Record) {x y : Record} {i : ℕ} → i ≡ length l - 1 → slice_get l i ≡ Some x → slice_get r 0 ≡ Some y
    → is_ascending (keys_of l) ≡ true → is_ascending (keys_of r) ≡ true
    → is_lt (key_cmp x.key y.key) ≡ is_ascending (keys_of (l ++ r))
leaves_test l [] n h g a b = cc
leaves_test l (z ∷ r) {x} {y} {i} n h g a b =
    let same : z ≡ y = cc in
    let last : slice_get (keys_of l) (length (keys_of l) - 1) ≡ Some x.key =
    subst (λ m. slice_get (keys_of l) m ≡ Some x.key) (n ∙ ap (λ m. m - 1) (sym (keys_length l))) (key_at_place l i x h) in
    sym (ap is_ascending (keys_append l (z ∷ r)) ∙ ascending_cat (keys_of l) (keys_of r) x.key z.key last a
    ∙ true_end (is_lt (key_cmp x.key z.key)) (is_ascending (keys_of (z ∷ r))) b
    ∙ ap (λ (t : Record). is_lt (key_cmp x.key t.key)) same)

-- keys of two inner pages with one between
pub inners_test : (l r : List Key) (k : Key) {x y : Key} → slice_get l (length l - 1) ≡ Some x → slice_get r 0 ≡ Some y → is_ascending l ≡ true
    → is_ascending r ≡ true
    → is_ascending (l ++ k ∷ r) ≡ (is_lt (key_cmp x k) && is_lt (key_cmp k y))
inners_test l [] k h g a b = cc
inners_test l (z ∷ r) k {x} {y} h g a b =
    let same : z ≡ y = cc in
    ascending_cat l (z ∷ r) x k h a
    ∙ ap (λ c. is_lt (key_cmp x k) && c) (true_end (is_lt (key_cmp k z)) (is_ascending (z ∷ r)) b ∙ ap (λ t. is_lt (key_cmp k t)) same)

-- the key at a place is below this one, where there is such a place
abbrev pub is_past_all : Option Key → Key → Bool
is_past_all None k = true
is_past_all (Some l) k = is_lt (key_cmp l k)

abbrev pub is_before_all : Key → Option Key → Bool
is_before_all k None = true
is_before_all k (Some l) = is_lt (key_cmp k l)

abbrev pub key_before : List Key → ℕ → Option Key
key_before ks zero = None
key_before ks (suc i) = slice_get ks i

first_step : (k : Key) (xs : List Key) → is_ascending xs ≡ true → is_ascending (k ∷ xs) ≡ is_before_all k (slice_get xs 0)
first_step k [] a = refl
first_step k (x ∷ xs) a = true_end (is_lt (key_cmp k x)) (is_ascending (x ∷ xs)) a

pub set_ascends : (ks : List Key) (i : ℕ) (k : Key) → i < length ks → is_ascending ks ≡ true
    → is_ascending (slice_set ks i k) ≡ (is_past_all (key_before ks i) k && is_before_all k (slice_get ks (suc i)))
set_ascends [] i k lt a = absurd (omega arith)
set_ascends (x ∷ xs) zero k lt a = first_step k xs (ascending_rest x xs a)
set_ascends (x ∷ []) (suc i) k lt a = absurd (omega arith)
set_ascends (x ∷ y ∷ ys) (suc zero) k lt a = ap (λ c. is_lt (key_cmp x k) && c) (first_step k ys (ascending_rest y ys (ascending_rest x (y ∷ ys) a)))
set_ascends (x ∷ y ∷ ys) (suc (suc i)) k lt a =
    let t = and_parts (is_lt (key_cmp x y)) (is_ascending (y ∷ ys)) a in
    and_true (is_lt (key_cmp x y)) (is_ascending (y ∷ slice_set ys i k)) t.0 ∙ set_ascends (y ∷ ys) (suc i) k (omega arith) t.1

one_back : (i : ℕ) → suc i - 1 ≡ i
one_back i = omega arith

past_first : (ks : List Key) (i : ℕ) (k : Key) → ((l : Key) → 0 < i → slice_get ks (i - 1) ≡ Some l → is_lt (key_cmp l k) ≡ true)
    → is_past_all (key_before ks i) k ≡ true
past_first ks zero k f = refl
past_first ks (suc i) k f = past_some (slice_get ks i) refl
  where
    past_some : (o : Option Key) → slice_get ks i ≡ o → is_past_all (slice_get ks i) k ≡ true
    past_some None e = ap (λ p. is_past_all p k) e
    past_some (Some l) e = ap (λ p. is_past_all p k) e ∙ f l (omega arith) (subst (λ n. slice_get ks n ≡ Some l) (sym (one_back i)) e)

module _ (ks : List Key) (k : Key) where
  fits_from : (i : ℕ) → i < length ks → is_ascending ks ≡ true → (a b : Bool) → is_past_all (key_before ks i) k ≡ a
      → is_before_all k (slice_get ks (suc i)) ≡ b → (a && b) ≡ is_ascending (slice_set ks i k)
  fits_from i lt asc a b e f = sym (set_ascends ks i k lt asc ∙ ap (λ c. c && is_before_all k (slice_get ks (suc i))) e ∙ ap (λ c. a && c) f)

  -- the key before does not let it
  pub not_fits : (i : ℕ) (l : Key) → i < length ks → is_ascending ks ≡ true → 0 < i → slice_get ks (i - 1) ≡ Some l → is_lt (key_cmp l k) ≡ false
      → false ≡ is_ascending (slice_set ks i k)
  not_fits zero l lt asc some h g = absurd (omega arith)
  not_fits (suc i) l lt asc some h g =
      let here : slice_get ks i ≡ Some l = subst (λ n. slice_get ks n ≡ Some l) (one_back i) h in
      fits_from (suc i) lt asc false (is_before_all k (slice_get ks (suc (suc i)))) (ap (λ o. is_past_all o k) here ∙ g) refl

  -- the key behind decides
  pub fits_behind : (i j : ℕ) (l : Key) → i < length ks → is_ascending ks ≡ true
      → ((m : Key) → 0 < i → slice_get ks (i - 1) ≡ Some m → is_lt (key_cmp m k) ≡ true) → j ≡ suc i → slice_get ks j ≡ Some l
      → is_lt (key_cmp k l) ≡ is_ascending (slice_set ks i k)
  fits_behind i j l lt asc f e h =
      fits_from i lt asc true (is_lt (key_cmp k l)) (past_first ks i k f) (ap (is_before_all k) (ap (slice_get ks) (sym e) ∙ h))

pub no_more : (ks : List Key) (i : ℕ) → length ks ≤ i → slice_get ks i ≡ None
no_more [] i h = refl
no_more (k ∷ ks) zero h = absurd (omega arith)
no_more (k ∷ ks) (suc i) h = no_more ks i (omega arith)

pub fits_last : (ks : List Key) (i : ℕ) (k : Key) → i < length ks → is_ascending ks ≡ true
    → ((m : Key) → 0 < i → slice_get ks (i - 1) ≡ Some m → is_lt (key_cmp m k) ≡ true)
    → length ks ≤ suc i → true ≡ is_ascending (slice_set ks i k)
fits_last ks i k lt asc f e = fits_from ks k i lt asc true true (past_first ks i k f) (ap (is_before_all k) (no_more ks (suc i) e))

module _ (ks : List Key) (i : ℕ) (k : Key) where
  pub known_past : (l : Key) → slice_get ks (i - 1) ≡ Some l → is_lt (key_cmp l k) ≡ true → (m : Key) → 0 < i → slice_get ks (i - 1) ≡ Some m
      → is_lt (key_cmp m k) ≡ true
  known_past l h g m some e = let same : l ≡ m = same_Some l m (sym h ∙ e) in subst (λ n. is_lt (key_cmp n k) ≡ true) same g

  pub first_past : i ≤ 0 → (m : Key) → 0 < i → slice_get ks (i - 1) ≡ Some m → is_lt (key_cmp m k) ≡ true
  first_past none m some e = absurd (omega arith)
