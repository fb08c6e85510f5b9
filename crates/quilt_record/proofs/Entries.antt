-- Entries stay in the order of their names.
use Rattle.std.proofs.Common.{◌≡◌, ◌≢◌, ℕ, zero, suc, ◌+◌, ◌<◌, ◌≤◌, Bool, true, false, not, ◌&&◌, cond, nat_lt, Option, Some, None, List, [], ◌∷◌, length}
use Rattle.std.proofs.Common.{take, refl, sym, ◌∙◌, ap, arith, one-add, All, Ordering, Less, Equal, Greater}
use Rattle.std.specs.Prelude.{if◌then◌else◌}
use Rattle.std.specs.List.{list_all, insert, remove, position, position_or_len}
use Rattle.std.proofs.lemmas.Bool.Decides.{nat_tests}
use Rattle.std.specs.Ordering.{is_lt, ordering_reverse}
use Rattle.std.specs.Cmp.Lexicographic.{nat_list_cmp_total}
use Rattle.std.specs.FinMap.{slice_cmp-IsAntisymmetric, nat_cmp-IsAntisymmetric}
use Rattle.std.proofs.lemmas.Bool.{ltb-false, and_parts, and_from}
use Rattle.quilt_record.specs.declared.entry.Entry.{Entry}
use Rattle.quilt_record.specs.Catalogs.{NamesAscend, IsCatalog, name_cmp, with_entry}
use Rattle.quilt_types.proofs.Lists.{all_follow}
use Rattle.quilt_record.proofs.Orders.{is_Less}

all_remove : {X : Type 0} (p : X → Bool) (xs : List X) (i : ℕ) → list_all p xs ≡ true → list_all p (remove xs i) ≡ true
all_remove p [] zero h = refl
all_remove p [] (suc i) h = refl
all_remove p (x ∷ xs) zero h = (and_parts (p x) (list_all p xs) h).1
all_remove p (x ∷ xs) (suc i) h = let t = and_parts (p x) (list_all p xs) h in and_from (p x) (list_all p (remove xs i)) t.0 (all_remove p xs i t.1)

lt_lt : (s t u : List ℕ) → is_lt (name_cmp s t) ≡ true → is_lt (name_cmp t u) ≡ true → is_lt (name_cmp s u) ≡ true
lt_lt s t u h g = ap is_lt (nat_list_cmp_total.trans s t u (is_Less (name_cmp s t) h) (is_Less (name_cmp t u) g))

-- of two names one is first
other_way : (s t : List ℕ) → t ≢ s → is_lt (name_cmp s t) ≡ false → is_lt (name_cmp t s) ≡ true
other_way s t differ h =
    ap is_lt (nat_list_cmp_total.antisymm t s) ∙ turned (name_cmp s t) refl h
  where
    turned : (o : Ordering) → o ≡ name_cmp s t → is_lt o ≡ false → is_lt (ordering_reverse o) ≡ true
    turned Less e g = cc
    turned Equal e g = absurd (differ (sym (slice_cmp-IsAntisymmetric nat_cmp-IsAntisymmetric s t (sym e))))
    turned Greater e g = refl

pub placed : (e : Entry) (es : List Entry) → insert es (position_or_len (λ f. is_lt (name_cmp e.name f.name)) es) e ≡ with_entry e es
placed e [] = refl
placed e (f ∷ es) = by_case (is_lt (name_cmp e.name f.name)) (placed e es)
  where
    by_case : (b : Bool) → insert es (position_or_len (λ g. is_lt (name_cmp e.name g.name)) es) e ≡ with_entry e es
        → insert (f ∷ es) (cond (not b) (1 + position_or_len (λ g. is_lt (name_cmp e.name g.name)) es) 0) e ≡ (if b then e ∷ f ∷ es else f ∷ with_entry e es)
    by_case true h = refl
    by_case false h = ap (λ m. insert (f ∷ es) m e) (one-add (position_or_len (λ g. is_lt (name_cmp e.name g.name)) es)) ∙ ap (λ l. f ∷ l) h

all_with : (p : Entry → Bool) (e : Entry) (es : List Entry) → p e ≡ true → list_all p es ≡ true → list_all p (with_entry e es) ≡ true
all_with p e [] h g = and_from (p e) true h refl
all_with p e (f ∷ es) h g = by_case (is_lt (name_cmp e.name f.name)) (all_with p e es h (and_parts (p f) (list_all p es) g).1)
  where
    by_case : (b : Bool) → list_all p (with_entry e es) ≡ true → list_all p (if b then e ∷ f ∷ es else f ∷ with_entry e es) ≡ true
    by_case true k = and_from (p e) (list_all p (f ∷ es)) h g
    by_case false k = and_from (p f) (list_all p (with_entry e es)) (and_parts (p f) (list_all p es) g).0 k

order_with : (e : Entry) (es : List Entry) → NamesAscend es → All (λ f. f.name ≢ e.name) es → NamesAscend (with_entry e es)
order_with e [] o d = (refl, tt)
order_with e (f ∷ es) o d = by_case (is_lt (name_cmp e.name f.name)) refl (order_with e es o.1 (λ k g lt. d (suc k) g (omega (arith, lt))))
  where
    by_case : (b : Bool) → is_lt (name_cmp e.name f.name) ≡ b → NamesAscend (with_entry e es) → NamesAscend (if b then e ∷ f ∷ es else f ∷ with_entry e es)
    by_case true h k = (
      and_from (is_lt (name_cmp e.name f.name)) (list_all (λ g. is_lt (name_cmp e.name g.name)) es) h
          (all_follow (λ g. is_lt (name_cmp f.name g.name)) (λ g. is_lt (name_cmp e.name g.name)) (λ g t. lt_lt e.name f.name g.name h t) es o.0),
      o,
    )
    by_case false h k = (all_with (λ g. is_lt (name_cmp f.name g.name)) e es (other_way e.name f.name (d 0 f (omega arith)) h) o.0, k)

pub length_with : (e : Entry) (es : List Entry) → length (with_entry e es) ≡ suc (length es)
length_with e [] = refl
length_with e (f ∷ es) = by_case (is_lt (name_cmp e.name f.name)) (length_with e es)
  where
    by_case : (b : Bool) → length (with_entry e es) ≡ suc (length es) → length (if b then e ∷ f ∷ es else f ∷ with_entry e es) ≡ suc (suc (length es))
    by_case true h = refl
    by_case false h = ap suc h

pub catalog_with : (e : Entry) (es : List Entry) → IsCatalog es → length es < 255 → All (λ f. f.name ≢ e.name) es → IsCatalog (with_entry e es)
catalog_with e es c room d = record { few = omega (arith, length_with e es, room); order = order_with e es c.order d }

order_without : (es : List Entry) (i : ℕ) → NamesAscend es → NamesAscend (remove es i)
order_without [] zero o = tt
order_without [] (suc i) o = tt
order_without (e ∷ es) zero o = o.1
order_without (e ∷ es) (suc i) o = (all_remove (λ f. is_lt (name_cmp e.name f.name)) es i o.0, order_without es i o.1)

length_without : {X : Type 0} (es : List X) (i : ℕ) → length (remove es i) ≤ length es
length_without [] zero = omega arith
length_without [] (suc i) = omega arith
length_without (e ∷ es) zero = omega arith
length_without (e ∷ es) (suc i) =
    let rest = length_without es i in
    omega arith

pub catalog_without : (es : List Entry) (i : ℕ) → IsCatalog es → IsCatalog (remove es i)
catalog_without es i c = record { few = omega (arith, length_without es i, c.few); order = order_without es i c.order }

pub place_most : {X : Type 0} (p : X → Bool) (xs : List X) → position_or_len p xs ≤ length xs
place_most p [] = omega arith
place_most p (x ∷ xs) = by_case (not (p x)) (place_most p xs)
  where
    by_case : (b : Bool) → position_or_len p xs ≤ length xs → cond b (1 + position_or_len p xs) 0 ≤ suc (length xs)
    by_case true h = omega (arith, h)
    by_case false h = omega arith

found_at : (n : ℕ) (b : Bool) (i : ℕ) → cond {A = Option ℕ} b (Some n) None ≡ Some i → i ≡ n
found_at n true i h = cc
found_at n false i h = cc

-- the first place that passes
pub place_found : {X : Type 0} (p : X → Bool) (xs : List X) (i : ℕ) → position p xs ≡ Some i → i ≡ position_or_len p xs
place_found p xs i h = found_at (position_or_len p xs) (nat_lt (position_or_len p xs) (length xs)) i h

not_found : (n m : ℕ) → n ≤ m → cond {A = Option ℕ} (nat_lt n m) (Some n) None ≡ None → m ≡ n
not_found n m h g = by_case (nat_lt n m) refl g
  where
    by_case : (b : Bool) → b ≡ nat_lt n m → cond {A = Option ℕ} b (Some n) None ≡ None → m ≡ n
    by_case true e k = cc
    by_case false e k = omega (arith, h, ltb-false n m (sym e))

pub place_last : {X : Type 0} (p : X → Bool) (xs : List X) → position p xs ≡ None → length xs ≡ position_or_len p xs
place_last p xs h = not_found (position_or_len p xs) (length xs) (place_most p xs) h
