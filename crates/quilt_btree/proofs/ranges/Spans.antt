-- The records of a range lie within its bounds, over every store.
use Rattle.std.proofs.Common.{◌≡◌, ℕ, zero, suc, ◌≤◌, Bool, true, false, List, [], ◌∷◌, ◌++◌, take, filter, cond, Option, Some, None, IfSome, length, refl, ◌∙◌, ap, subst, arith}
use Rattle.std.proofs.lemmas.Bool.{and_from, and_parts}
use Rattle.std.specs.List.{list_all}
use Rattle.std.specs.Ordering.{is_le, is_lt}
use Rattle.quilt_record.specs.declared.key.Key.{Key}
use Rattle.quilt_record.specs.declared.record.Record.{Record}
use Rattle.quilt_record.specs.Records.{key_cmp}
use Rattle.quilt_node.specs.Tree.{is_below}
use Rattle.quilt_node.proofs.Ascending.{all_take}
use Rattle.quilt_btree.specs.Lists.{is_from_to}
use Rattle.quilt_btree.specs.Looks.{AddsFrom}
use Rattle.quilt_record.proofs.Orders.{le_le, lt_to_le}
use Rattle.quilt_btree.proofs.lists.Rising.{all_follow, all_append}

kept_one : {X : Type 0} (p : X → Bool) (x : X) (xs : List X) (b : Bool) → p x ≡ b → list_all p xs ≡ true → list_all p (cond (p x) (x ∷ xs) xs) ≡ true
kept_one p x xs true e h = ap (λ c. list_all p (cond c (x ∷ xs) xs)) e ∙ and_from (p x) (list_all p xs) e h
kept_one p x xs false e h = ap (λ c. list_all p (cond c (x ∷ xs) xs)) e ∙ h

all_filter : {X : Type 0} (p : X → Bool) (xs : List X) → list_all p (filter p xs) ≡ true
all_filter p [] = refl
all_filter p (x ∷ xs) = kept_one p x (filter p xs) (p x) refl (all_filter p xs)

take_most : {X : Type 0} (n : ℕ) (xs : List X) → length (take n xs) ≤ n
take_most zero xs = omega arith
take_most (suc n) [] = omega arith
take_most (suc n) (x ∷ xs) = let h = take_most n xs in omega arith

take_keeps : {X : Type 0} (n : ℕ) (xs ys : List X) → length xs ≤ n → length xs ≤ length (take n (xs ++ ys))
take_keeps n [] ys h = omega arith
take_keeps zero (x ∷ xs) ys h = absurd (omega arith)
take_keeps (suc n) (x ∷ xs) ys h = let g = take_keeps n xs ys (omega arith) in omega arith

-- no more records than there may be, and none fewer
pub added_most : (most : ℕ) (old some new : List Record) → new ≡ take most (old ++ some) → length old ≤ most
    → (length new ≤ most) × (length old ≤ length new)
added_most most old some new is le =
    let e = ap length is in
    let m = take_most most (old ++ some) in
    let k = take_keeps most old some le in
    (omega arith, omega arith)

module _ (low from high : Key) (le : is_le (key_cmp low from) ≡ true) where
  wider : (xs : List Record) → list_all (is_from_to from high) xs ≡ true → list_all (is_from_to low high) xs ≡ true
  wider xs h = all_follow (is_from_to from high) (is_from_to low high) one xs h
    where
      one : (r : Record) → is_from_to from high r ≡ true → is_from_to low high r ≡ true
      one r g =
          let t = and_parts (is_le (key_cmp from r.key)) (is_le (key_cmp r.key high)) g in
          and_from (is_le (key_cmp low r.key)) (is_le (key_cmp r.key high)) (le_le low from r.key le t.0) t.1

  -- records of one more leaf
  pub added_within : (most : ℕ) (leaf old new : List Record) → new ≡ take most (old ++ filter (is_from_to from high) leaf)
      → list_all (is_from_to low high) old ≡ true → list_all (is_from_to low high) new ≡ true
  added_within most leaf old new is h =
      ap (list_all (is_from_to low high)) is
      ∙ all_take (is_from_to low high) (old ++ filter (is_from_to from high) leaf) most
      (all_append (is_from_to low high) old (filter (is_from_to from high) leaf) h
      (wider (filter (is_from_to from high) leaf) (all_filter (is_from_to from high) leaf)))

-- of those that are added to none
module _ {told : Option (List (List ℕ))} {page : ℕ} {low high : Key} {most : ℕ} {old new : List Record} (a : AddsFrom told page low high most old new)
    (none : old ≡ []) where
  from_none : new ≡ take most (filter (is_from_to low high) a.some)
  from_none = a.added ∙ ap (λ (l : List Record). take most (l ++ filter (is_from_to low high) a.some)) none

  pub first_within : list_all (is_from_to low high) new ≡ true
  first_within =
      ap (list_all (is_from_to low high)) from_none ∙ all_take (is_from_to low high) (filter (is_from_to low high) a.some) most
      (all_filter (is_from_to low high) a.some)

  pub first_few : length new ≤ most
  first_few = (added_most most [] (filter (is_from_to low high) a.some) new from_none (omega arith)).0

pub above_bound : (k next : Key) (high : Option Key) → (is_below None k ≡ true → is_below high k ≡ true) → high ≡ Some next
    → is_lt (key_cmp k next) ≡ true
above_bound k next high f is = subst (λ o. is_below o k ≡ true) is (f refl)

pub le_on : (low from next : Key) → is_le (key_cmp low from) ≡ true → is_lt (key_cmp from next) ≡ true → is_le (key_cmp low next) ≡ true
le_on low from next h g = le_le low from next h (lt_to_le (key_cmp from next) g)

pub at_some : (o : Option Key) (k : Key) (P : Key → Type 0) → o ≡ Some k → IfSome o P → P k
at_some o k P e h = subst (λ p. IfSome p P) e h
