-- What is found after some segments were gathered.
use Rattle.std.proofs.Common.{◌≡◌, ℕ, true, false, cond, ◌⊎◌, inl, inr, ⊎_elim, List, [], ◌∷◌, fold, Contains, Ordering, Less, Equal, Greater, nat_cmp, refl}
use Rattle.std.proofs.Common.{sym, ◌∙◌, subst, ap}
use Rattle.std.specs.Ordering.{match_ordering}
use Rattle.std.specs.FinMap as finmap
use Rattle.std.specs.BTreeMap.{insert_entry}
use Rattle.quilt_types.specs.declared.plane.Seg.{Seg}
use Rattle.quilt_types.specs.declared.plane.Window.{Window}
use Rattle.quilt_loc.proofs.Members.{Contains-nil, Contains-here, Contains-there, Contains-cons_cases}
use Rattle.quilt_select.specs.Shares.{meets_any}
use Rattle.quilt_select.specs.Descents.{with_selected}

abbrev Found : Type 0
Found = List (ℕ × Seg)

-- one segment comes among those of a list
abbrev placed : Ordering → ℕ × Seg → ℕ × Seg → Found → Found → Found
placed o k e es more = match_ordering o (k ∷ e ∷ es) ((e.0, k.1) ∷ es) (e ∷ more)

same_id : (k e : ℕ × Seg) → nat_cmp k.0 e.0 ≡ Equal → (e.0, k.1) ≡ k
same_id k e is = ap (λ i. (i, k.1)) (sym (finmap.nat_cmp-IsAntisymmetric k.0 e.0 is))

from_by : (o : Ordering) (k e : ℕ × Seg) (es more : Found) → nat_cmp k.0 e.0 ≡ o → ((z : ℕ × Seg) → Contains more z → (k ≡ z) ⊎ Contains es z)
    → (z : ℕ × Seg) → Contains (placed o k e es more) z → (k ≡ z) ⊎ Contains (e ∷ es) z
from_by Less k e es more is h z c = Contains-cons_cases k (e ∷ es) z c
from_by Equal k e es more is h z c =
    ⊎_elim (λ here. inl (sym (same_id k e is) ∙ here)) (λ d. inr (Contains-there e es z d)) (Contains-cons_cases (e.0, k.1) es z c)
from_by Greater k e es more is h z c =
    ⊎_elim (λ here. inr (subst (Contains (e ∷ es)) here (Contains-here e es)))
    (λ d. ⊎_elim (λ here. inl here) (λ f. inr (Contains-there e es z f)) (h z d)) (Contains-cons_cases e more z c)

put_from : (k : ℕ × Seg) (es : Found) (z : ℕ × Seg) → Contains (insert_entry nat_cmp es k.0 k.1) z → (k ≡ z) ⊎ Contains es z
put_from k [] z c = ⊎_elim (λ here. inl here) (λ d. absurd (Contains-nil z d)) (Contains-cons_cases k [] z c)
put_from k (e ∷ es) z c = from_by (nat_cmp k.0 e.0) k e es (insert_entry nat_cmp es k.0 k.1) refl (put_from k es) z c

here_by : (o : Ordering) (k e : ℕ × Seg) (es more : Found) → nat_cmp k.0 e.0 ≡ o → Contains more k → Contains (placed o k e es more) k
here_by Less k e es more is h = Contains-here k (e ∷ es)
here_by Equal k e es more is h = subst (Contains (placed Equal k e es more)) (same_id k e is) (Contains-here (e.0, k.1) es)
here_by Greater k e es more is h = Contains-there e more k h

put_here : (k : ℕ × Seg) (es : Found) → Contains (insert_entry nat_cmp es k.0 k.1) k
put_here k [] = Contains-here k []
put_here k (e ∷ es) = here_by (nat_cmp k.0 e.0) k e es (insert_entry nat_cmp es k.0 k.1) refl (put_here k es)

there_by : (o : Ordering) (k e : ℕ × Seg) (es more : Found) → nat_cmp k.0 e.0 ≡ o → (z : ℕ × Seg) → (k.0 ≡ z.0 → k ≡ z)
    → (Contains es z → Contains more z) → Contains (e ∷ es) z → Contains (placed o k e es more) z
there_by Less k e es more is z one h c = Contains-there k (e ∷ es) z c
there_by Equal k e es more is z one h c =
    ⊎_elim
    (λ here. subst (Contains (placed Equal k e es more))
    (same_id k e is ∙ one (finmap.nat_cmp-IsAntisymmetric k.0 e.0 is ∙ ap (λ (y : ℕ × Seg). y.0) here)) (Contains-here (e.0, k.1) es))
    (λ d. Contains-there (e.0, k.1) es z d) (Contains-cons_cases e es z c)
there_by Greater k e es more is z one h c =
    ⊎_elim (λ here. subst (Contains (e ∷ more)) here (Contains-here e more)) (λ d. Contains-there e more z (h d)) (Contains-cons_cases e es z c)

put_there : (k : ℕ × Seg) (es : Found) (z : ℕ × Seg) → (k.0 ≡ z.0 → k ≡ z) → Contains es z → Contains (insert_entry nat_cmp es k.0 k.1) z
put_there k [] z one c = absurd (Contains-nil z c)
put_there k (e ∷ es) z one c = there_by (nat_cmp k.0 e.0) k e es (insert_entry nat_cmp es k.0 k.1) refl z one (put_there k es z one) c

-- what is found after a list of segments
pub record Gathers (near : List Window) (was seen now : Found) : Type 0 where
  pub real : (z : ℕ × Seg) → Contains now z → Contains was z ⊎ (Contains seen z × (meets_any near z.1 ≡ true))
  pub here : (z : ℕ × Seg) → Contains seen z → meets_any near z.1 ≡ true → Contains now z
  pub kept : (z : ℕ × Seg) → Contains was z → Contains now z

-- of segments among all, of which one id has one
module _ (near : List Window) (all : Found) (one : (a b : ℕ × Seg) → Contains all a → Contains all b → a.0 ≡ b.0 → a ≡ b) where
  step : (was : Found) (x : ℕ × Seg) → Contains all x → ((z : ℕ × Seg) → Contains was z → Contains all z) → Gathers near was (x ∷ []) (with_selected near was x)
  step was x listed inside =
      elim (meets_any near x.1) as (λ t. meets_any near x.1 ≡ t → Gathers near was (x ∷ []) (cond t (insert_entry nat_cmp was x.0 x.1) was)) [
        | true ↦ λ t. record {
          real =
              λ z c. ⊎_elim (λ is. inr (subst (Contains (x ∷ [])) is (Contains-here x []), subst (λ (y : ℕ × Seg). meets_any near y.1 ≡ true) is t))
              (λ d. inl d) (put_from x was z c);
          here = λ z c m. ⊎_elim (λ is. subst (Contains (insert_entry nat_cmp was x.0 x.1)) is (put_here x was)) (λ d. absurd (Contains-nil z d))
              (Contains-cons_cases x [] z c);
          kept = λ z c. put_there x was z (one x z listed (inside z c)) c;
        }
        | false ↦ λ t. record {
          real = λ z c. inl c;
          here = λ z c m. ⊎_elim (λ is. absurd (let no : true ≡ false = sym m ∙ subst (λ (y : ℕ × Seg). meets_any near y.1 ≡ false) is t in cc))
              (λ d. absurd (Contains-nil z d)) (Contains-cons_cases x [] z c);
          kept = λ z c. c;
        }
      ] refl

  pub gathers : (was seen : Found) → ((z : ℕ × Seg) → Contains seen z → Contains all z) → ((z : ℕ × Seg) → Contains was z → Contains all z)
      → Gathers near was seen (fold (with_selected near) was seen)
  gathers was [] listed inside = record { real = λ z c. inl c; here = λ z c m. absurd (Contains-nil z c); kept = λ z c. c }
  gathers was (x ∷ xs) listed inside =
      let s = step was x (listed x (Contains-here x xs)) inside in
      let within : (z : ℕ × Seg) → Contains (with_selected near was x) z → Contains all z = λ z c.
      ⊎_elim (λ d. inside z d) (λ w. ⊎_elim (λ is. subst (Contains all) is (listed x (Contains-here x xs))) (λ d. absurd (Contains-nil z d))
      (Contains-cons_cases x [] z w.0)) (s.real z c) in
      let r = gathers (with_selected near was x) xs (λ z c. listed z (Contains-there x xs z c)) within in
      record {
        real = λ z c. ⊎_elim
            (λ d. ⊎_elim (λ f. inl f)
            (λ w. inr (
              ⊎_elim (λ is. subst (Contains (x ∷ xs)) is (Contains-here x xs)) (λ f. absurd (Contains-nil z f))
                  (Contains-cons_cases x [] z w.0),
              w.1,
            )) (s.real z d))
            (λ w. inr (Contains-there x xs z w.0, w.1)) (r.real z c);
        here = λ z c m. ⊎_elim (λ is. r.kept z (s.here z (subst (Contains (x ∷ [])) is (Contains-here x [])) m)) (λ d. r.here z d m)
            (Contains-cons_cases x xs z c);
        kept = λ z c. r.kept z (s.kept z c);
      }
