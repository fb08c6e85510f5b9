-- The leaves at which two walks stand: both, or one walk is over.
use Rattle.std.proofs.Common.{◌≡◌, ◌⊎◌, inl, inr, Option, Some, None, IfSome, refl, ap, subst}
use Rattle.std.specs.Option.{option_zip}
use Rattle.quilt_blocks.specs.declared.leaf.Leaf.{Leaf}

first_of : {T U : Type 0} → Option (T × U) → T → T
first_of None d = d
first_of (Some z) d = z.0

second_of : {T U : Type 0} → Option (T × U) → U → U
second_of None d = d
second_of (Some z) d = z.1

-- a pair has both
pub zip_some : {T U : Type 0} (a : Option T) (b : Option U) (p : T) (q : U) → option_zip a b ≡ Some (p, q) → (a ≡ Some p) × (b ≡ Some q)
unfolding first_of second_of
zip_some None b p q e = absurd (cc)
zip_some (Some x) None p q e = absurd (cc)
zip_some (Some x) (Some y) p q e = (ap Some (ap (λ o. first_of o x) e), ap Some (ap (λ o. second_of o y) e))

-- no pair lacks one
pub zip_none : {T U : Type 0} (a : Option T) (b : Option U) → option_zip a b ≡ None → (a ≡ None) ⊎ (b ≡ None)
zip_none None b e = inl refl
zip_none (Some x) None e = inr refl
zip_none (Some x) (Some y) e = absurd (cc)

-- what is said of the leaf of a walk that stands at one
pub at_some : (P : Leaf → Type 0) (o : Option Leaf) (l : Leaf) → o ≡ Some l → IfSome o P → P l
at_some P o l e h = let r : IfSome (Some l) P = subst (λ (z : Option Leaf). IfSome z P) e h in r
