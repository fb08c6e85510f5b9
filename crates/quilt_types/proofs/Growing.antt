-- A list of rings after its last ring has changed. f gives the corners of a ring.
use Rattle.std.proofs.Common.{◌≡◌, ℕ, zero, suc, ◌-◌, ◌<◌, List, [], ◌∷◌, ◌++◌, map, length, refl, ap, sym, ◌∙◌, arith, slice_set, get_or}
use Rattle.quilt_types.specs.declared.plane.Corner.{Corner}
use Rattle.quilt_types.specs.Rings.{with_corner}

module _ {V : Type 0} where
  pub grown : (f : V → List Corner) (vs : List V) (k : ℕ) (old now : V) (c : Corner) → length vs ≡ suc k → old ≡ get_or vs k old
      → f now ≡ f old ++ c ∷ [] → map f (slice_set vs k now) ≡ with_corner (map f vs) c
  grown f [] k old now c l at e = absurd (let no : ⊥ = omega arith in no)
  grown f (v ∷ []) zero old now c l at e = let same : v ≡ old = sym at in ap (λ r. r ∷ []) (e ∙ ap (λ r. f r ++ c ∷ []) (sym same))
  grown f (v ∷ []) (suc k) old now c l at e = absurd (let no : ⊥ = omega arith in no)
  grown f (v ∷ w ∷ vs) zero old now c l at e = absurd (let no : ⊥ = omega arith in no)
  grown f (v ∷ w ∷ vs) (suc k) old now c l at e = ap (λ rs. f v ∷ rs) (grown f (w ∷ vs) k old now c (omega (arith, l)) at e)

  pub unchanged : (f : V → List Corner) (vs : List V) (k : ℕ) (old now : V) → old ≡ get_or vs k old → f now ≡ f old → map f (slice_set vs k now) ≡ map f vs
  unchanged f [] k old now at e = refl
  unchanged f (v ∷ vs) zero old now at e = let same : v ≡ old = sym at in ap (λ r. r ∷ map f vs) (e ∙ ap f (sym same))
  unchanged f (v ∷ vs) (suc k) old now at e = ap (λ rs. f v ∷ rs) (unchanged f vs k old now at e)

-- the last of some rings has one place less than there are
pub before_last : (mapped items seen count : ℕ) → mapped ≡ items → mapped ≡ seen → 0 < seen → count ≡ items → items ≡ suc (count - 1)
before_last mapped items seen count a b c d = omega arith
