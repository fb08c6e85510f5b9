-- Keys that ascend strictly, and where a key belongs among them.
use Rattle.std.proofs.Common.{◌≡◌, ℕ, zero, suc, ◌<◌, Bool, true, ◌&&◌, List, [], ◌∷◌, ◌++◌, length, take, drop, get_or, refl, subst, arith}
use Rattle.std.specs.List.{list_all, insert, remove}
use Rattle.std.specs.Ordering.{is_lt}
use Rattle.std.proofs.Math.Seq.{take-append_seam, drop-append_seam}
pub use Rattle.quilt_types.proofs.Lists.{all_follow, all_take}
use Rattle.quilt_record.specs.declared.key.Key.{Key}
use Rattle.quilt_record.specs.Records.{key_cmp}
use Rattle.quilt_node.specs.Pages.{is_ascending}
use Rattle.quilt_record.proofs.Orders.{lt_lt}
use Rattle.std.proofs.lemmas.Bool.{and_parts, and_from}

pub and_both : (a b : Bool) → a ≡ true → b ≡ true → a && b ≡ true
and_both = and_from

pub all_append : {X : Type 0} (p : X → Bool) (xs ys : List X) → list_all p xs ≡ true → list_all p ys ≡ true → list_all p (xs ++ ys) ≡ true
all_append p [] ys h g = g
all_append p (x ∷ xs) ys h g = let t = and_parts (p x) (list_all p xs) h in and_from (p x) (list_all p (xs ++ ys)) t.0 (all_append p xs ys t.1 g)

pub all_front : {X : Type 0} (p : X → Bool) (xs ys : List X) → list_all p (xs ++ ys) ≡ true → list_all p xs ≡ true
all_front p [] ys h = refl
all_front p (x ∷ xs) ys h = let t = and_parts (p x) (list_all p (xs ++ ys)) h in and_from (p x) (list_all p xs) t.0 (all_front p xs ys t.1)

pub all_back : {X : Type 0} (p : X → Bool) (xs ys : List X) → list_all p (xs ++ ys) ≡ true → list_all p ys ≡ true
all_back p [] ys h = h
all_back p (x ∷ xs) ys h = all_back p xs ys (and_parts (p x) (list_all p (xs ++ ys)) h).1

pub all_drop : {X : Type 0} (p : X → Bool) (xs : List X) (i : ℕ) → list_all p xs ≡ true → list_all p (drop i xs) ≡ true
all_drop p xs zero h = h
all_drop p [] (suc i) h = refl
all_drop p (x ∷ xs) (suc i) h = all_drop p xs i (and_parts (p x) (list_all p xs) h).1

pub all_at : {X : Type 0} (p : X → Bool) (xs : List X) (i : ℕ) (d : X) → list_all p xs ≡ true → i < length xs → p (get_or xs i d) ≡ true
all_at p [] i d h lt = absurd (omega arith)
all_at p (x ∷ xs) zero d h lt = (and_parts (p x) (list_all p xs) h).0
all_at p (x ∷ xs) (suc i) d h lt = all_at p xs i d (and_parts (p x) (list_all p xs) h).1 (omega arith)

abbrev pub is_over : Key → Key → Bool
is_over k l = is_lt (key_cmp k l)

abbrev pub is_under : Key → Key → Bool
is_under k l = is_lt (key_cmp l k)

pub ascending_tail : (k : Key) (ks : List Key) → is_ascending (k ∷ ks) ≡ true → is_ascending ks ≡ true
ascending_tail k [] h = refl
ascending_tail k (l ∷ ks) h = (and_parts (is_lt (key_cmp k l)) (is_ascending (l ∷ ks)) h).1

-- the first is below all others
pub ascending_all : (k : Key) (ks : List Key) → is_ascending (k ∷ ks) ≡ true → list_all (is_over k) ks ≡ true
ascending_all k [] h = refl
ascending_all k (l ∷ ks) h =
    let t = and_parts (is_lt (key_cmp k l)) (is_ascending (l ∷ ks)) h in
    and_from (is_lt (key_cmp k l)) (list_all (is_over k) ks) t.0 (all_follow (is_over l) (is_over k) (λ m g. lt_lt k l m t.0 g) ks (ascending_all l ks t.1))

pub ascending_cons : (k : Key) (ks : List Key) → list_all (is_over k) ks ≡ true → is_ascending ks ≡ true → is_ascending (k ∷ ks) ≡ true
ascending_cons k [] h g = refl
ascending_cons k (l ∷ ks) h g = and_from (is_lt (key_cmp k l)) (is_ascending (l ∷ ks)) (and_parts (is_lt (key_cmp k l)) (list_all (is_over k) ks) h).0 g

pub ascending_take : (ks : List Key) (i : ℕ) → is_ascending ks ≡ true → is_ascending (take i ks) ≡ true
ascending_take ks zero h = refl
ascending_take [] (suc i) h = refl
ascending_take (k ∷ ks) (suc i) h =
    ascending_cons k (take i ks) (all_take (is_over k) ks i (ascending_all k ks h)) (ascending_take ks i (ascending_tail k ks h))

pub ascending_drop : (ks : List Key) (i : ℕ) → is_ascending ks ≡ true → is_ascending (drop i ks) ≡ true
ascending_drop ks zero h = h
ascending_drop [] (suc i) h = refl
ascending_drop (k ∷ ks) (suc i) h = ascending_drop ks i (ascending_tail k ks h)

pub ascending_remove : (ks : List Key) (i : ℕ) → is_ascending ks ≡ true → is_ascending (remove ks i) ≡ true
ascending_remove [] zero h = refl
ascending_remove [] (suc i) h = refl
ascending_remove (k ∷ ks) zero h = ascending_tail k ks h
ascending_remove (k ∷ ks) (suc i) h =
    let all = ascending_all k ks h in
    ascending_cons k (remove ks i) (all_append (is_over k) (take i ks) (drop (suc i) ks) (all_take (is_over k) ks i all) (all_drop (is_over k) ks (suc i) all))
    (ascending_remove ks i (ascending_tail k ks h))

pub ascending_front : (ks ls : List Key) → is_ascending (ks ++ ls) ≡ true → is_ascending ks ≡ true
ascending_front ks ls h = subst (λ l. is_ascending l ≡ true) (take-append_seam ks ls) (ascending_take (ks ++ ls) (length ks) h)

pub ascending_back : (ks ls : List Key) → is_ascending (ks ++ ls) ≡ true → is_ascending ls ≡ true
ascending_back ks ls h = subst (λ l. is_ascending l ≡ true) (drop-append_seam ks ls) (ascending_drop (ks ++ ls) (length ks) h)

-- two lists with a key between them
pub ascending_join : (k : Key) (ks ls : List Key) → list_all (is_under k) ks ≡ true → list_all (is_over k) ls ≡ true
    → is_ascending ks ≡ true → is_ascending ls ≡ true
    → is_ascending (ks ++ k ∷ ls) ≡ true
ascending_join k [] ls h g a b = ascending_cons k ls g b
ascending_join k (m ∷ ks) ls h g a b =
    let t = and_parts (is_lt (key_cmp m k)) (list_all (is_under k) ks) h in
    ascending_cons m (ks ++ k ∷ ls)
    (all_append (is_over m) ks (k ∷ ls) (ascending_all m ks a)
    (and_from (is_lt (key_cmp m k)) (list_all (is_over m) ls) t.0 (all_follow (is_over k) (is_over m) (λ l c. lt_lt m k l t.0 c) ls g)))
    (ascending_join k ks ls t.1 g (ascending_tail m ks a) b)

-- a place is between those below a key and those above it: the key put in there keeps the order
pub ascending_insert : (k : Key) (ks : List Key) (i : ℕ) → is_ascending ks ≡ true → list_all (is_under k) (take i ks) ≡ true
    → list_all (is_over k) (drop i ks) ≡ true
    → is_ascending (insert ks i k) ≡ true
ascending_insert k ks i a h g = ascending_join k (take i ks) (drop i ks) h g (ascending_take ks i a) (ascending_drop ks i a)

-- what stands up to a smaller key is smaller
pub low_side : (ks : List Key) (i : ℕ) (d k : Key) → is_ascending ks ≡ true → i < length ks → is_under k (get_or ks i d) ≡ true
    → list_all (is_under k) (take (suc i) ks) ≡ true
low_side [] i d k a lt h = absurd (omega arith)
low_side (x ∷ ks) zero d k a lt h = and_from (is_under k x) true h refl
low_side (x ∷ ks) (suc i) d k a lt h =
    let in_rest : i < length ks = omega arith in
    and_from (is_under k x) (list_all (is_under k) (take (suc i) ks))
    (lt_lt x (get_or ks i d) k (all_at (is_over x) ks i d (ascending_all x ks a) in_rest) h)
    (low_side ks i d k (ascending_tail x ks a) in_rest h)

-- what stands from a greater key on is greater
pub high_side : (ks : List Key) (i : ℕ) (d k : Key) → is_ascending ks ≡ true → i < length ks → is_over k (get_or ks i d) ≡ true
    → list_all (is_over k) (drop i ks) ≡ true
high_side [] i d k a lt h = absurd (omega arith)
high_side (x ∷ ks) zero d k a lt h =
    and_from (is_over k x) (list_all (is_over k) ks) h (all_follow (is_over x) (is_over k) (λ l g. lt_lt k x l h g) ks (ascending_all x ks a))
high_side (x ∷ ks) (suc i) d k a lt h = high_side ks i d k (ascending_tail x ks a) (omega arith) h

-- what stands before and behind a key
pub before_key : (ks : List Key) (i : ℕ) (d : Key) → is_ascending ks ≡ true → i < length ks → list_all (is_under (get_or ks i d)) (take i ks) ≡ true
before_key [] i d a lt = absurd (omega arith)
before_key (x ∷ ks) zero d a lt = refl
before_key (x ∷ ks) (suc i) d a lt =
    let in_rest : i < length ks = omega arith in
    and_from (is_under (get_or ks i d) x) (list_all (is_under (get_or ks i d)) (take i ks))
    (all_at (is_over x) ks i d (ascending_all x ks a) in_rest) (before_key ks i d (ascending_tail x ks a) in_rest)

pub behind_key : (ks : List Key) (i : ℕ) (d : Key) → is_ascending ks ≡ true → i < length ks → list_all (is_over (get_or ks i d)) (drop (suc i) ks) ≡ true
behind_key [] i d a lt = absurd (omega arith)
behind_key (x ∷ ks) zero d a lt = ascending_all x ks a
behind_key (x ∷ ks) (suc i) d a lt = behind_key ks i d (ascending_tail x ks a) (omega arith)
