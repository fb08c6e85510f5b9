-- Keys that ascend within bounds, put together at a key between them.
use Rattle.std.proofs.Common.{◌≡◌, Bool, true, List, [], ◌∷◌, ◌++◌, Option, Some, None, map, refl}
use Rattle.std.proofs.lemmas.Bool.{and_from, and_parts}
use Rattle.std.specs.List.{list_all}
use Rattle.std.specs.Ordering.{is_lt, is_le}
use Rattle.quilt_record.specs.declared.key.Key.{Key}
use Rattle.quilt_record.specs.Records.{key_cmp}
use Rattle.quilt_node.specs.Pages.{is_ascending}
use Rattle.quilt_node.specs.Tree.{Bounds, is_above, is_below, are_within}
use Rattle.quilt_record.proofs.Orders.{lt_le, le_le, lt_to_le}

-- they ascend strictly, and lie within the bounds
pub record IsRising (b : Bounds) (ks : List Key) : Type 0 where
  pub ascends : is_ascending ks ≡ true
  pub within : are_within b ks ≡ true

ascending_cons : (low k : Key) (ks : List Key) → is_lt (key_cmp low k) ≡ true → list_all (λ l. is_le (key_cmp k l)) ks ≡ true
    → is_ascending ks ≡ true → is_ascending (low ∷ ks) ≡ true
ascending_cons low k [] h g a = refl
ascending_cons low k (l ∷ ks) h g a =
    and_from (is_lt (key_cmp low l)) (is_ascending (l ∷ ks))
    (lt_le low k l h (and_parts (is_le (key_cmp k l)) (list_all (λ m. is_le (key_cmp k m)) ks) g).0) a

pub ascending_join : (k : Key) (ks ls : List Key) → list_all (λ l. is_lt (key_cmp l k)) ks ≡ true → list_all (λ l. is_le (key_cmp k l)) ls ≡ true
    → is_ascending ks ≡ true → is_ascending ls ≡ true → is_ascending (ks ++ ls) ≡ true
ascending_join k [] ls h g a b = b
ascending_join k (m ∷ []) ls h g a b = ascending_cons m k ls (and_parts (is_lt (key_cmp m k)) true h).0 g b
ascending_join k (m ∷ n ∷ ks) ls h g a b =
    let parts = and_parts (is_lt (key_cmp m n)) (is_ascending (n ∷ ks)) a in
    and_from (is_lt (key_cmp m n)) (is_ascending (n ∷ ks ++ ls)) parts.0
    (ascending_join k (n ∷ ks) ls (and_parts (is_lt (key_cmp m k)) (list_all (λ l. is_lt (key_cmp l k)) (n ∷ ks)) h).1 g parts.1 b)

pub all_follow : {X : Type 0} (p q : X → Bool) → ((x : X) → p x ≡ true → q x ≡ true) → (xs : List X) → list_all p xs ≡ true → list_all q xs ≡ true
all_follow p q f [] h = refl
all_follow p q f (x ∷ xs) h = let t = and_parts (p x) (list_all p xs) h in and_from (q x) (list_all q xs) (f x t.0) (all_follow p q f xs t.1)

pub all_append : {X : Type 0} (p : X → Bool) (xs ys : List X) → list_all p xs ≡ true → list_all p ys ≡ true → list_all p (xs ++ ys) ≡ true
all_append p [] ys h g = g
all_append p (x ∷ xs) ys h g = let t = and_parts (p x) (list_all p xs) h in and_from (p x) (list_all p (xs ++ ys)) t.0 (all_append p xs ys t.1 g)

pub above_on : (low : Option Key) (k l : Key) → is_above low k ≡ true → is_le (key_cmp k l) ≡ true → is_above low l ≡ true
above_on None k l h g = refl
above_on (Some low) k l h g = le_le low k l h g

pub below_on : (high : Option Key) (k l : Key) → is_below high k ≡ true → is_lt (key_cmp l k) ≡ true → is_below high l ≡ true
below_on None k l h g = refl
below_on (Some high) k l h g = lt_le l k high g (lt_to_le (key_cmp k high) h)

-- two rising lists at both sides of a key
pub rising_join : (b : Bounds) (k : Key) (ks ls : List Key) → is_above b.low k ≡ true → is_below b.high k ≡ true
    → IsRising (record { low = b.low; high = Some k }) ks → IsRising (record { low = Some k; high = b.high }) ls → IsRising b (ks ++ ls)
rising_join b k ks ls low high p q = record {
  ascends = ascending_join k ks ls (all_follow _ _ (λ l h. (and_parts (is_above b.low l) (is_lt (key_cmp l k)) h).1) ks p.within)
      (all_follow _ _ (λ l h. (and_parts (is_le (key_cmp k l)) (is_below b.high l) h).0) ls q.within) p.ascends q.ascends;
  within = all_append _ ks ls
      (all_follow _ _ (λ l h. let t = and_parts (is_above b.low l) (is_lt (key_cmp l k)) h in
      and_from (is_above b.low l) (is_below b.high l) t.0 (below_on b.high k l high t.1)) ks p.within)
      (all_follow _ _ (λ l h. let t = and_parts (is_le (key_cmp k l)) (is_below b.high l) h in
      and_from (is_above b.low l) (is_below b.high l) (above_on b.low k l low t.0) t.1) ls q.within);
}

pub all_map : {X Y : Type 0} (f : X → Y) (p : Y → Bool) (xs : List X) → list_all p (map f xs) ≡ true → list_all (λ x. p (f x)) xs ≡ true
all_map f p [] h = refl
all_map f p (x ∷ xs) h = let t = and_parts (p (f x)) (list_all p (map f xs)) h in and_from (p (f x)) (list_all (λ y. p (f y)) xs) t.0 (all_map f p xs t.1)

pub map_all : {X Y : Type 0} (f : X → Y) (p : Y → Bool) (xs : List X) → list_all (λ x. p (f x)) xs ≡ true → list_all p (map f xs) ≡ true
map_all f p [] h = refl
map_all f p (x ∷ xs) h = let t = and_parts (p (f x)) (list_all (λ y. p (f y)) xs) h in and_from (p (f x)) (list_all p (map f xs)) t.0 (map_all f p xs t.1)

pub all_parts : {X : Type 0} (p : X → Bool) (xs ys : List X) → list_all p (xs ++ ys) ≡ true → (list_all p xs ≡ true) × (list_all p ys ≡ true)
all_parts p [] ys h = (refl, h)
all_parts p (x ∷ xs) ys h =
    let t = and_parts (p x) (list_all p (xs ++ ys)) h in
    let u = all_parts p xs ys t.1 in
    (and_from (p x) (list_all p xs) t.0 u.0, u.1)
