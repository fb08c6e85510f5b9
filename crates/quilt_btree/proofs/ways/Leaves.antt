-- What is found in one leaf.
use Rattle.std.proofs.Common.{◌≡◌, ◌≢◌, ℕ, zero, suc, ◌-◌, true, false, ◌||◌, not, cond, List, [], ◌∷◌, ◌++◌, length, take, drop, Option, Some, None, refl, sym}
use Rattle.std.proofs.Common.{◌∙◌, ap, subst, arith, take-append-drop, Ordering, Less, Equal, Greater}
use Rattle.std.specs.Prelude.{slice_get}
use Rattle.std.specs.List.{list_any, insert, remove, last_or}
use Rattle.std.specs.Ordering.{is_le, is_eq, ordering_reverse}
use Rattle.std.specs.Option.{option_or}
use Rattle.quilt_record.specs.declared.key.Key.{Key}
use Rattle.quilt_record.specs.declared.record.Record.{Record}
use Rattle.quilt_record.specs.Records.{key_cmp}
use Rattle.quilt_node.specs.Nodes.{IsFound, IsGap}
use Rattle.quilt_record.specs.Lists.{has_key, put, without}
use Rattle.quilt_btree.specs.Lists.{value_in, value_at_key, floor_of}
use Rattle.quilt_record.proofs.Orders.{key_total}
use Rattle.quilt_btree.proofs.lists.Lists.{IsAmong, value_between, floor_between, any_between, put_between, without_between}

pub cut_at : {X : Type 0} (xs : List X) (i : ℕ) (x : X) → slice_get xs i ≡ Some x → xs ≡ take i xs ++ x ∷ drop (suc i) xs
cut_at [] i x h = cc
cut_at (y ∷ xs) zero x h = let same : y ≡ x = cc in ap (λ z. z ∷ xs) same
cut_at (y ∷ xs) (suc i) x h = ap (λ l. y ∷ l) (cut_at xs i x h)

pub last_take : {X : Type 0} (o : Option X) (xs : List X) (j : ℕ) (x : X) → slice_get xs j ≡ Some x → last_or o (take (suc j) xs) ≡ Some x
last_take o [] j x h = cc
last_take o (y ∷ xs) zero x h = h
last_take o (y ∷ xs) (suc j) x h = last_take (Some y) xs j x h

pub last_at : {X : Type 0} (o : Option X) (xs : List X) (x : X) → slice_get xs (length xs - 1) ≡ Some x → last_or o xs ≡ Some x
last_at o [] x h = cc
last_at o (y ∷ []) x h = h
last_at o (y ∷ z ∷ xs) x h =
    let e : length (y ∷ z ∷ xs) - 1 ≡ suc (length (z ∷ xs) - 1) = omega arith in
    last_at (Some y) (z ∷ xs) x (subst (λ n. slice_get (y ∷ z ∷ xs) n ≡ Some x) e h)

self_equal : (o : Ordering) → o ≡ ordering_reverse o → o ≡ Equal
self_equal Less h = cc
self_equal Equal h = refl
self_equal Greater h = cc

same_key : (k : Key) → is_eq (key_cmp k k) ≡ true
same_key k = ap is_eq (self_equal (key_cmp k k) (key_total.antisymm k k))

pub same_le : (k : Key) → is_le (key_cmp k k) ≡ true
same_le k = ap is_le (self_equal (key_cmp k k) (key_total.antisymm k k))

pub found_among : (k : Key) (rs : List Record) (i : ℕ) (r : Record) → IsFound k rs i → slice_get rs i ≡ Some r
    → IsAmong k (take i rs) (r ∷ []) (drop (suc i) rs) rs
found_among k rs i r f e = record { records = cut_at rs i r e; lower = f.before; higher = f.behind }

pub found_key : (k : Key) (rs : List Record) (i : ℕ) (r : Record) → IsFound k rs i → slice_get rs i ≡ Some r → r.key ≡ k
found_key k rs i r f e = let there = f.here in let same : f.found ≡ r = cc in ap (λ (s : Record). s.key) (sym same) ∙ f.key

pub gap_among : (k : Key) (rs : List Record) (i : ℕ) → IsGap k rs i → IsAmong k (take i rs) [] (drop i rs) rs
gap_among k rs i g = record { records = sym (take-append-drop i rs); lower = g.before; higher = g.behind }

has_it : (k : Key) (r : Record) → r.key ≡ k → has_key k r ≡ true
has_it k r e = ap (λ l. is_eq (key_cmp l k)) e ∙ same_key k

value_one : (k : Key) (r : Record) → r.key ≡ k → value_at_key k (r ∷ []) ≡ Some r.value
unfolding value_at_key
value_one k r e = ap (λ b. value_in (cond b (Some r) None)) (has_it k r e)

pub found_value : (k : Key) (rs : List Record) (i : ℕ) (r : Record) → IsFound k rs i → slice_get rs i ≡ Some r → value_at_key k rs ≡ Some r.value
found_value k rs i r f e = value_between k (take i rs) (r ∷ []) (drop (suc i) rs) rs (found_among k rs i r f e) ∙ value_one k r (found_key k rs i r f e)

value_nothing : (k : Key) → value_at_key k [] ≡ None
unfolding value_at_key
value_nothing k = refl

pub gap_value : (k : Key) (rs : List Record) (i : ℕ) → IsGap k rs i → value_at_key k rs ≡ None
gap_value k rs i g = value_between k (take i rs) [] (drop i rs) rs (gap_among k rs i g) ∙ value_nothing k

floor_one : (k : Key) (r : Record) → r.key ≡ k → floor_of k (r ∷ []) ≡ Some r
unfolding floor_of
floor_one k r e = ap (λ b. last_or None (cond b (r ∷ []) [])) (ap (λ l. is_le (key_cmp l k)) e ∙ same_le k)

some_or : {X : Type 0} (o : Option X) (x : X) (p : Option X) → o ≡ Some x → option_or o p ≡ Some x
some_or o x p h = ap (λ q. option_or q p) h

pub found_floor : (k : Key) (rs : List Record) (i : ℕ) (r : Record) → IsFound k rs i → slice_get rs i ≡ Some r → floor_of k rs ≡ Some r
found_floor k rs i r f e =
    floor_between k (take i rs) (r ∷ []) (drop (suc i) rs) rs (found_among k rs i r f e)
    ∙ some_or (floor_of k (r ∷ [])) r (last_or None (take i rs)) (floor_one k r (found_key k rs i r f e))

floor_nothing : (k : Key) (p : Option Record) → option_or (floor_of k []) p ≡ p
unfolding floor_of
floor_nothing k p = refl

pub gap_floor : (k : Key) (rs : List Record) (i : ℕ) → IsGap k rs i → floor_of k rs ≡ last_or None (take i rs)
gap_floor k rs i g = floor_between k (take i rs) [] (drop i rs) rs (gap_among k rs i g) ∙ floor_nothing k (last_or None (take i rs))

pub gap_floor_none : (k : Key) (rs : List Record) (i : ℕ) → IsGap k rs i → i ≡ 0 → floor_of k rs ≡ None
gap_floor_none k rs i g e = gap_floor k rs i g ∙ ap (λ n. last_or None (take n rs)) e

pub gap_floor_last : (k : Key) (rs : List Record) (i : ℕ) (r : Record) → IsGap k rs i → i ≢ 0 → slice_get rs (i - 1) ≡ Some r → floor_of k rs ≡ Some r
gap_floor_last k rs i r g some e =
    let n : i ≡ suc (i - 1) = omega arith in
    gap_floor k rs i g ∙ ap (λ m. last_or None (take m rs)) n ∙ last_take None rs (i - 1) r e

-- a record put in at its gap, and one taken out
pub put_gap : (r : Record) (rs : List Record) (i : ℕ) → IsGap r.key rs i → insert rs i r ≡ put r rs
put_gap r rs i g = sym (put_between r (take i rs) [] (drop i rs) rs (gap_among r.key rs i g))

pub gap_any : (k : Key) (rs : List Record) (i : ℕ) → IsGap k rs i → list_any (has_key k) rs ≡ false
gap_any k rs i g = any_between k (take i rs) [] (drop i rs) rs (gap_among k rs i g)

pub found_any : (k : Key) (rs : List Record) (i : ℕ) (r : Record) → IsFound k rs i → slice_get rs i ≡ Some r → list_any (has_key k) rs ≡ true
found_any k rs i r f e =
    any_between k (take i rs) (r ∷ []) (drop (suc i) rs) rs (found_among k rs i r f e) ∙ ap (λ b. b || false) (has_it k r (found_key k rs i r f e))

without_one : (k : Key) (r : Record) → r.key ≡ k → without k (r ∷ []) ≡ []
unfolding without
without_one k r e = ap (λ b. cond (not b) (r ∷ []) []) (has_it k r e)

pub without_found : (k : Key) (rs : List Record) (i : ℕ) (r : Record) → IsFound k rs i → slice_get rs i ≡ Some r → remove rs i ≡ without k rs
without_found k rs i r f e =
    sym (without_between k (take i rs) (r ∷ []) (drop (suc i) rs) rs (found_among k rs i r f e)
    ∙ ap (λ l. take i rs ++ (l ++ drop (suc i) rs)) (without_one k r (found_key k rs i r f e)))
