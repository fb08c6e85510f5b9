-- A page that is changed where it lies is as dirty as it was.
use Rattle.std.proofs.Common.{◌≡◌, inl, inr, ℕ, List, [], ◌∷◌, nat_eq, refl}
use Rattle.std.proofs.lemmas.Bool.{cases_Bool}
use Rattle.quilt_pool.specs.Entries.{Entries, is_dirty, entry_edited}

pub dirt_edited : (k : ℕ) (w : List ℕ) (i : ℕ) (es : Entries) → is_dirty (entry_edited es k w) i ≡ is_dirty es i
dirt_edited k w i [] = refl
dirt_edited k w i (e ∷ es) = elim (cases_Bool (nat_eq k e.0)) [
  | inl t ↦ elim (cases_Bool (nat_eq i e.0)) [
    | inl s ↦ rw (t, s) refl
    | inr n ↦ rw (t, n) refl
  ]
  | inr f ↦ elim (cases_Bool (nat_eq i e.0)) [
    | inl s ↦ rw (f, s) refl
    | inr n ↦ rw (f, n) (dirt_edited k w i es)
  ]
]
