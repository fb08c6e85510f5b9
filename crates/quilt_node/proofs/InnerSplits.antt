-- An inner page that is split, and a child that moves from one page to another, as lists.
use Rattle.std.proofs.Common.{◌≡◌, ℕ, zero, suc, ◌+◌, ◌-◌, ◌<◌, ◌≤◌, true, Some, List, [], ◌∷◌, ◌++◌, length, take, drop, refl, sym, ◌∙◌, ap, subst}
use Rattle.std.proofs.Common.{append_assoc, arith}
use Rattle.std.specs.Prelude.{slice_get}
use Rattle.std.specs.List.{insert, remove}
use Rattle.quilt_record.specs.declared.key.Key.{Key}
use Rattle.quilt_node.specs.Pages.{Inner, is_ascending}
use Rattle.quilt_node.specs.Edits.{with_child, first_children, children_from}
use Rattle.quilt_node.proofs.Ascending.{ascending_take, ascending_drop, ascending_front}
use Rattle.quilt_node.proofs.Leaves.{take_insert_low, drop_insert_low, take_insert_high, drop_insert_high, insert_last, remove_last}

get_insert_low : {X : Type 0} (xs : List X) (i n : ℕ) (x : X) → i ≤ n → slice_get (insert xs i x) (suc n) ≡ slice_get xs n
get_insert_low xs zero n x h = refl
get_insert_low xs (suc i) zero x h = absurd (omega arith)
get_insert_low [] (suc i) (suc n) x h = refl
get_insert_low (y ∷ xs) (suc i) (suc n) x h = get_insert_low xs i n x (omega arith)

get_insert_same : {X : Type 0} (xs : List X) (i : ℕ) (x : X) → i ≤ length xs → slice_get (insert xs i x) i ≡ Some x
get_insert_same xs zero x h = refl
get_insert_same [] (suc i) x h = absurd (omega arith)
get_insert_same (y ∷ xs) (suc i) x h = get_insert_same xs i x (omega arith)

get_insert_high : {X : Type 0} (xs : List X) (i n : ℕ) (x : X) → n < i → n < length xs → slice_get (insert xs i x) n ≡ slice_get xs n
get_insert_high xs zero n x h g = absurd (omega arith)
get_insert_high [] (suc i) n x h g = absurd (omega arith)
get_insert_high (y ∷ xs) (suc i) zero x h g = refl
get_insert_high (y ∷ xs) (suc i) (suc n) x h g = get_insert_high xs i n x (omega arith) (omega arith)

drop_get : {X : Type 0} (xs : List X) (n : ℕ) (x : X) → slice_get xs n ≡ Some x → drop n xs ≡ x ∷ drop (suc n) xs
drop_get [] n x h = cc
drop_get (y ∷ xs) zero x h = ap (λ l. l ++ xs) (one y x h)
  where
    one : {X : Type 0} (y x : X) → Some y ≡ Some x → y ∷ [] ≡ x ∷ []
    one y x h = cc
drop_get (y ∷ xs) (suc n) x h = drop_get xs n x h

-- put in among the first 126 children
pub low_left : (inner : Inner) (i child : ℕ) (k : Key) → i < 126
    → with_child (first_children 126 inner) i k child ≡ first_children 127 (with_child inner i k child)
low_left inner i child k h =
    let cs = sym (take_insert_low inner.children (suc i) 126 child h) in
    let ks = sym (take_insert_low inner.keys i 125 k (omega arith)) in
    λ j. record { height = inner.height; children = cs j; keys = ks j }

pub low_right : (inner : Inner) (i child : ℕ) (k : Key) → i < 126 → children_from 126 inner ≡ children_from 127 (with_child inner i k child)
low_right inner i child k h =
    let cs = sym (drop_insert_low inner.children (suc i) 126 child h) in
    let ks = sym (drop_insert_low inner.keys i 126 k (omega arith)) in
    λ j. record { height = inner.height; children = cs j; keys = ks j }

pub low_key : (ks : List Key) (i : ℕ) (k : Key) → i < 126 → slice_get (insert ks i k) 126 ≡ slice_get ks 125
low_key ks i k h = get_insert_low ks i 125 k (omega arith)

pub low_order : (ks : List Key) (i : ℕ) (k : Key) → i < 126 → is_ascending (insert ks i k) ≡ true → is_ascending (insert (take 125 ks) i k) ≡ true
low_order ks i k h a = subst (λ l. is_ascending l ≡ true) (take_insert_low ks i 125 k (omega arith)) (ascending_take (insert ks i k) 126 a)

-- put in behind the first 127 children
pub high_left : (inner : Inner) (i child : ℕ) (k : Key) → 126 ≤ i → 127 ≤ length inner.children → 126 ≤ length inner.keys
    → first_children 127 inner ≡ first_children 127 (with_child inner i k child)
high_left inner i child k h few fewer =
    let cs = sym (take_insert_high inner.children (suc i) 127 child (omega arith) few) in
    let ks = sym (take_insert_high inner.keys i 126 k h fewer) in
    λ j. record { height = inner.height; children = cs j; keys = ks j }

pub high_right : (inner : Inner) (i m child : ℕ) (k : Key) → i ≡ 127 + m → 127 ≤ length inner.children → 127 ≤ length inner.keys
    → with_child (children_from 127 inner) m k child ≡ children_from 127 (with_child inner i k child)
high_right inner i m child k e few fewer =
    let cs = sym (drop_insert_high inner.children (suc i) 127 (suc m) child (omega arith) few) in
    let ks = sym (drop_insert_high inner.keys i 127 m k e fewer) in
    λ j. record { height = inner.height; children = cs j; keys = ks j }

pub high_key : (ks : List Key) (i : ℕ) (k : Key) → 126 < i → 126 < length ks → slice_get (insert ks i k) 126 ≡ slice_get ks 126
high_key ks i k h g = get_insert_high ks i 126 k h g

pub high_order : (ks : List Key) (i m : ℕ) (k : Key) → i ≡ 127 + m → 127 ≤ length ks → is_ascending (insert ks i k) ≡ true
    → is_ascending (insert (drop 127 ks) m k) ≡ true
high_order ks i m k e fewer a = subst (λ l. is_ascending l ≡ true) (drop_insert_high ks i 127 m k e fewer) (ascending_drop (insert ks i k) 127 a)

-- put in right behind the first 127: the key itself parts the pages
pub middle_right : (inner : Inner) (i child : ℕ) (k between : Key) → i ≡ 126 → 127 ≤ length inner.children → slice_get inner.keys 126 ≡ Some between
    → record { height = inner.height; children = child ∷ drop 127 inner.children; keys = between ∷ drop 127 inner.keys }
    ≡ children_from 127 (with_child inner i k child)
middle_right inner i child k between e few h =
    let cs = sym (drop_insert_high inner.children (suc i) 127 0 child (omega arith) few) in
    let ks = sym (drop_insert_low inner.keys i 126 k (omega arith) ∙ drop_get inner.keys 126 between h) in
    λ j. record { height = inner.height; children = cs j; keys = ks j }

pub middle_key : (ks : List Key) (i : ℕ) (k : Key) → i ≡ 126 → 126 ≤ length ks → slice_get (insert ks i k) 126 ≡ Some k
middle_key ks i k e h = ap (λ n. slice_get (insert ks n k) 126) e ∙ get_insert_same ks 126 k h

pub middle_order : (ks : List Key) (i : ℕ) (k between : Key) → i ≡ 126 → slice_get ks 126 ≡ Some between → is_ascending (insert ks i k) ≡ true
    → is_ascending (between ∷ drop 127 ks) ≡ true
middle_order ks i k between e h a =
    subst (λ l. is_ascending l ≡ true) (drop_insert_low ks i 126 k (omega arith) ∙ drop_get ks 126 between h) (ascending_drop (insert ks i k) 127 a)

pub order_behind : (ks ls : List Key) (n : ℕ) (k : Key) → n ≡ length ks → is_ascending (ks ++ k ∷ ls) ≡ true → is_ascending (insert ks n k) ≡ true
order_behind ks ls n k e a =
    subst (λ l. is_ascending l ≡ true) (sym (insert_last ks n k e)) (ascending_front (ks ++ k ∷ []) ls (ap is_ascending (append_assoc ks (k ∷ []) ls) ∙ a))

pub without_last : (inner : Inner) (n m : ℕ) → suc n ≡ length inner.children → suc m ≡ length inner.keys → m ≡ n - 1
    → record { height = inner.height; children = remove inner.children n; keys = remove inner.keys m } ≡ first_children n inner
without_last inner n m e g h =
    let cs = remove_last inner.children n e in
    let ks = remove_last inner.keys m g ∙ ap (λ l. take l inner.keys) h in
    λ j. record { height = inner.height; children = cs j; keys = ks j }
