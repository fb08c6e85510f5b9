-- What a search for a key finds in a list of records.
use Rattle.std.proofs.Common.{◌≡◌, true, false, List, [], ◌∷◌, Some, None, refl, ◌∙◌, ap, sym, ⊎_elim, Contains, Ordering, Less, Equal, Greater}
use Rattle.std.specs.Prelude.{find}
use Rattle.std.specs.Ordering.{is_eq}
use Rattle.std.specs.Cmp.{tied_itself}
use Rattle.std.proofs.lemmas.Bool.{cases_Bool, cond-true, cond-false}
use Rattle.quilt_loc.specs.Codes.{Rises}
use Rattle.quilt_loc.proofs.Members.{Contains-nil, Contains-here, Contains-there, Contains-cons_cases}
use Rattle.quilt_record.specs.declared.key.Key.{Key}
use Rattle.quilt_record.specs.declared.record.Record.{Record}
use Rattle.quilt_record.specs.Records.{key_cmp}
use Rattle.quilt_record.specs.Lists.{has_key}
use Rattle.quilt_record.proofs.Orders.{key_equal, key_total}
use Rattle.quilt_spell.specs.Written.{by_key}

other_key : (k : Key) (r : Record) → (r.key ≡ k → ⊥) → has_key k r ≡ false
other_key k r away = ⊎_elim (λ t. absurd (away (key_equal r.key k (tied (key_cmp r.key k) t)))) (λ f. f) (cases_Bool (has_key k r))
  where
    tied : (o : Ordering) → is_eq o ≡ true → o ≡ Equal
    tied Less p = cc
    tied Equal p = refl
    tied Greater p = cc

pub find_away : (k : Key) (xs : List Record) → ((r : Record) → Contains xs r → r.key ≡ k → ⊥) → find (has_key k) xs ≡ None
find_away k [] h = refl
find_away k (x ∷ xs) h =
    cond-false (has_key k x) (Some x) (find (has_key k) xs) (other_key k x (h x (Contains-here x xs)))
    ∙ find_away k xs (λ r c. h r (Contains-there x xs r c))

pub find_at : (k : Key) (xs : List Record) (r : Record) → Rises by_key xs → Contains xs r → r.key ≡ k → find (has_key k) xs ≡ Some r
find_at k [] r up c e = absurd (Contains-nil r c)
find_at k (x ∷ xs) r up c e =
    ⊎_elim
    (λ is. cond-true (has_key k x) (Some x) (find (has_key k) xs)
    (ap is_eq (ap (λ z. key_cmp z k) (ap (λ (z : Record). z.key) is ∙ e) ∙ tied_itself key_total k)) ∙ ap Some is)
    (λ d.
    let less = up.0 r d in
    cond-false (has_key k x) (Some x) (find (has_key k) xs) (ap is_eq (ap (key_cmp x.key) (sym e) ∙ less)) ∙ find_at k xs r up.1 d e)
    (Contains-cons_cases x xs r c)
