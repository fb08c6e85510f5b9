-- The last record of a list that rises by its keys.
use Rattle.std.proofs.Common.{◌≡◌, true, List, [], ◌∷◌, Option, Some, None, refl, sym, ◌∙◌, ap, ⊎_elim, Contains}
use Rattle.std.specs.List.{last_or}
use Rattle.std.specs.Ordering.{is_le}
use Rattle.std.specs.Cmp.{tied_itself}
use Rattle.quilt_loc.specs.Codes.{Rises}
use Rattle.quilt_loc.proofs.Members.{Contains-nil, Contains-here, Contains-there, Contains-cons_cases}
use Rattle.quilt_record.specs.declared.record.Record.{Record}
use Rattle.quilt_spell.specs.Written.{by_key}
use Rattle.quilt_spell.proofs.Written.{by_key_total}

-- a member whose key no other one's is above
pub record IsLast (xs : List Record) (x : Record) : Type 0 where
  pub there : Contains xs x
  pub above : (y : Record) → Contains xs y → is_le (by_key y x) ≡ true

last_from : (o : Option Record) (x : Record) (xs : List Record) → Rises by_key (x ∷ xs) → (r : Record) × (last_or o (x ∷ xs) ≡ Some r) × IsLast (x ∷ xs) r
last_from o x [] h = (
  x,
  refl,
  record {
    there = Contains-here x [];
    above = λ y c. ⊎_elim (λ e. ap is_le (ap (λ (z : Record). by_key z x) (sym e) ∙ tied_itself by_key_total x)) (λ d. absurd (Contains-nil y d))
        (Contains-cons_cases x [] y c);
  },
)
last_from o x (z ∷ zs) h =
    let l = last_from (Some x) z zs h.1 in (
      l.0,
      l.1,
      record {
        there = Contains-there x (z ∷ zs) l.0 (l.2).there;
        above = λ y c. ⊎_elim (λ e. ap is_le (ap (λ (w : Record). by_key w l.0) (sym e) ∙ h.0 l.0 (l.2).there)) (λ d. (l.2).above y d)
            (Contains-cons_cases x (z ∷ zs) y c);
      },
    )

-- a rising list that has a member has a last one
pub last_is : (xs : List Record) (x : Record) → Rises by_key xs → Contains xs x → (r : Record) × (last_or None xs ≡ Some r) × IsLast xs r
last_is [] x h c = absurd (Contains-nil x c)
last_is (y ∷ ys) x h c = last_from None y ys h
