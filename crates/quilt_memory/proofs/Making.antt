-- Bytes that are laid over a file, and input that is taken.
use Rattle.std.proofs.Common.{◌≡◌, ℕ, ◌+◌, ◌-◌, ◌<◌, ◌≤◌, min, List, [], ◌∷◌, ◌++◌, length, take, drop, replicate, refl, sym, ◌∙◌, ap, subst, arith, inl, inr}
use Rattle.std.proofs.lemmas.Bool.{cases_lt}
use Rattle.std.proofs.lemmas.List.{length-take, take_all, drop_all}
use Rattle.quilt_host.specs.declared.act.Act.TheVariants.{Took}
use Rattle.quilt_host.specs.Bytes.{padded}
use Rattle.quilt_host.specs.Calls.{TakesInput}
use Rattle.quilt_host.specs.Story.{Story}

take_min : (n m : ℕ) (f : List ℕ) → m ≡ min n (length f) → take m f ≡ take n f
take_min n m f is = elim (cases_lt n (length f)) [
  | inl short ↦ let same : m ≡ n = omega arith in ap (λ k. take k f) same
  | inr long ↦ take_all m f (omega arith) ∙ sym (take_all n f (omega arith))
]

pub padded_made : (f all grown : List ℕ) (n m len : ℕ) → m ≡ min n (length f) → all ≡ take m f → len ≡ length all
    → grown ≡ take n all ++ replicate (n - len) 0 → grown ≡ padded f n
unfolding padded
padded_made f all grown n m len is front size made =
    let short : all ≡ take n f = front ∙ take_min n m f is in
    let few : length all ≤ n = omega (arith, ap length short, length-take n f) in
    let rest : n - len ≡ n - length f = omega (arith, ap length short, length-take n f) in
    made ∙ ap (λ l. l ++ replicate (n - len) 0) (take_all n all few ∙ short) ∙ ap (λ k. take n f ++ replicate k 0) rest

pub drop_min : (n m : ℕ) (f : List ℕ) → m ≡ min n (length f) → drop m f ≡ drop n f
drop_min n m f is = elim (cases_lt n (length f)) [
  | inl short ↦ let same : m ≡ n = omega arith in ap (λ k. drop k f) same
  | inr long ↦ drop_all m f (omega arith) ∙ sym (drop_all n f (omega arith))
]

pub takes_some : (x rest : List ℕ) (old new : Story) → 0 < length x → old.input ≡ x ++ rest → new ≡ record old { input = rest; acts = Took x ∷ old.acts }
    → TakesInput x old new
takes_some [] rest old new some next now = absurd (omega arith)
takes_some (b ∷ x) rest old new some next now = record { rest = rest; next = next; end = λ none. absurd (cc); now = now }

pub takes_as : (x y rest : List ℕ) (old new : Story) → y ≡ x → 0 < length x → old.input ≡ x ++ rest
    → new ≡ record old { input = rest; acts = Took x ∷ old.acts } → TakesInput y old new
takes_as x y rest old new is some next now = subst (λ (l : List ℕ). TakesInput l old new) (sym is) (takes_some x rest old new some next now)
