-- Where a key may stand among keys that ascend.
use Rattle.std.proofs.Common.{◌≡◌, ℕ, zero, suc, ◌-◌, ◌<◌, Bool, true, false, ◌&&◌, List, [], ◌∷◌, take, drop, Some, refl, sym, ◌∙◌, ap, subst, arith}
use Rattle.std.proofs.lemmas.Bool.{and_from, and_parts}
use Rattle.std.specs.Prelude.{slice_get}
use Rattle.std.specs.List.{insert, list_all}
use Rattle.std.specs.Ordering.{is_lt}
use Rattle.quilt_record.specs.declared.key.Key.{Key}
use Rattle.quilt_record.specs.Records.{key_cmp}
use Rattle.quilt_node.specs.Pages.{is_ascending}
use Rattle.quilt_node.proofs.Ascending.{ascending_insert}
use Rattle.quilt_record.proofs.Orders.{lt_le, lt_to_le}
use Rattle.quilt_btree.proofs.lists.Rising.{all_follow}
use Rattle.quilt_btree.proofs.subtrees.Trees.{ascending_first, ascending_rest}
use Rattle.quilt_btree.proofs.subtrees.Dividing.{member}
use Rattle.quilt_btree.proofs.lists.Separators.{below_separator, ascending_behind}

abbrev pub are_under : Key → List Key → Bool
are_under k ks = list_all (λ l. is_lt (key_cmp l k)) ks

abbrev pub are_over : Key → List Key → Bool
are_over k ks = list_all (λ l. is_lt (key_cmp k l)) ks

pub both_ways : (a b : Bool) → (a ≡ true → b ≡ true) → (b ≡ true → a ≡ true) → a ≡ b
both_ways true b f g = sym (f refl)
both_ways false true f g = g refl
both_ways false false f g = refl

under_all : (ks : List Key) (j : ℕ) (l k : Key) → is_ascending ks ≡ true → slice_get ks j ≡ Some l → is_lt (key_cmp l k) ≡ true
    → are_under k (take (suc j) ks) ≡ true
under_all [] j l k a h g = cc
under_all (x ∷ ks) zero l k a h g = let same : x ≡ l = cc in and_from (is_lt (key_cmp x k)) true (subst (λ m. is_lt (key_cmp m k) ≡ true) (sym same) g) refl
under_all (x ∷ ks) (suc j) l k a h g =
    let first = member (λ m. is_lt (key_cmp x m)) ks j l h (ascending_first x ks a) in
    and_from (is_lt (key_cmp x k)) (are_under k (take (suc j) ks)) (lt_le x l k first (lt_to_le (key_cmp l k) g))
    (under_all ks j l k (ascending_rest x ks a) h g)

all_under : (ks : List Key) (j : ℕ) (l k : Key) → slice_get ks j ≡ Some l → are_under k (take (suc j) ks) ≡ true → is_lt (key_cmp l k) ≡ true
all_under [] j l k h g = cc
all_under (x ∷ ks) zero l k h g = let same : x ≡ l = cc in subst (λ m. is_lt (key_cmp m k) ≡ true) same (and_parts (is_lt (key_cmp x k)) true g).0
all_under (x ∷ ks) (suc j) l k h g = all_under ks j l k h (and_parts (is_lt (key_cmp x k)) (are_under k (take (suc j) ks)) g).1

-- the keys up to a place are below one where the last of them is
pub under_last : (ks : List Key) (i : ℕ) (l k : Key) → is_ascending ks ≡ true → 0 < i → slice_get ks (i - 1) ≡ Some l
    → is_lt (key_cmp l k) ≡ are_under k (take i ks)
under_last ks zero l k a some h = absurd (omega arith)
under_last ks (suc j) l k a some h =
    let e : suc j - 1 ≡ j = omega arith in
    let there = subst (λ n. slice_get ks n ≡ Some l) e h in
    both_ways (is_lt (key_cmp l k)) (are_under k (take (suc j) ks)) (under_all ks j l k a there) (all_under ks j l k there)

over_all : (ks : List Key) (j : ℕ) (m k : Key) → is_ascending ks ≡ true → slice_get ks j ≡ Some m → is_lt (key_cmp k m) ≡ true → are_over k (drop j ks) ≡ true
over_all [] j m k a h g = cc
over_all (x ∷ ks) zero m k a h g =
    let same : x ≡ m = cc in
    let here = subst (λ l. is_lt (key_cmp k l) ≡ true) (sym same) g in
    and_from (is_lt (key_cmp k x)) (are_over k ks) here
    (all_follow (λ l. is_lt (key_cmp x l)) (λ l. is_lt (key_cmp k l)) (λ l f. lt_le k x l here (lt_to_le (key_cmp x l) f)) ks (ascending_first x ks a))
over_all (x ∷ ks) (suc j) m k a h g = over_all ks j m k (ascending_rest x ks a) h g

all_over : (ks : List Key) (j : ℕ) (m k : Key) → slice_get ks j ≡ Some m → are_over k (drop j ks) ≡ true → is_lt (key_cmp k m) ≡ true
all_over [] j m k h g = cc
all_over (x ∷ ks) zero m k h g = let same : x ≡ m = cc in subst (λ l. is_lt (key_cmp k l) ≡ true) same (and_parts (is_lt (key_cmp k x)) (are_over k ks) g).0
all_over (x ∷ ks) (suc j) m k h g = all_over ks j m k h g

-- the keys from a place on are above one where the first of them is
pub over_first : (ks : List Key) (i : ℕ) (m k : Key) → is_ascending ks ≡ true → slice_get ks i ≡ Some m → is_lt (key_cmp k m) ≡ are_over k (drop i ks)
over_first ks i m k a h = both_ways (is_lt (key_cmp k m)) (are_over k (drop i ks)) (over_all ks i m k a h) (all_over ks i m k h)

pub fits_there : (ks : List Key) (i : ℕ) (k : Key) → is_ascending ks ≡ true → (are_under k (take i ks) && are_over k (drop i ks)) ≡ is_ascending (insert ks i k)
fits_there ks i k a =
    both_ways (are_under k (take i ks) && are_over k (drop i ks)) (is_ascending (insert ks i k))
    (λ h. let t = and_parts (are_under k (take i ks)) (are_over k (drop i ks)) h in ascending_insert k ks i a t.0 t.1)
    (λ h. and_from (are_under k (take i ks)) (are_over k (drop i ks)) (below_separator k (take i ks) (drop i ks) h)
    (ascending_first k (drop i ks) (ascending_behind (take i ks) (k ∷ drop i ks) h)))

pub fits_not : (ks : List Key) (i : ℕ) (k : Key) → is_ascending ks ≡ true → are_under k (take i ks) ≡ false → false ≡ is_ascending (insert ks i k)
fits_not ks i k a h = sym (ap (λ b. b && are_over k (drop i ks)) h) ∙ fits_there ks i k a

pub fits_if : (ks : List Key) (i : ℕ) (k : Key) → is_ascending ks ≡ true → are_under k (take i ks) ≡ true
    → are_over k (drop i ks) ≡ is_ascending (insert ks i k)
fits_if ks i k a h = sym (ap (λ b. b && are_over k (drop i ks)) h) ∙ fits_there ks i k a
