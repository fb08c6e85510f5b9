-- The bits of pages.
use Rattle.std.proofs.Common.{◌≡◌, ⊎_elim, ℕ, ◌<◌, ◌≤◌, Bool, true, false, cond, eqb, ◌||◌, List, [], ◌∷◌}
use Rattle.std.proofs.Common.{replicate, refl, sym, ◌∙◌, ap, arith}
use Rattle.std.specs.List.{list_any}
use Rattle.std.proofs.lemmas.Bool.{cases_eq, eq-eqb, ne_eqb}
use Rattle.quilt_audit.specs.Bits.{Marks, AreWithin}
use Rattle.quilt_types.specs.Bits.{has_bit}
use Rattle.quilt_types.proofs.Bits.{no_bit_below}

-- ---- pages that are marked
pub Marks-none : (n : ℕ) → Marks (replicate n 0) []
Marks-none n = record { each = λ p. no_bit_below n p }

or_is : (b c : Bool) → cond b true c ≡ (b || c)
or_is true c = refl
or_is false c = refl

marked_one : (page p : ℕ) (b : Bool) (old : Bool) → eqb p page ≡ b → cond b true old ≡ (eqb page p || old)
marked_one page p b old e = ap (λ t. cond t true old) (sym e ∙ turned p page) ∙ or_is (eqb page p) old
  where
    turned : (i j : ℕ) → eqb i j ≡ eqb j i
    turned i j =
        ⊎_elim (λ same. eq-eqb i j same ∙ sym (eq-eqb j i (sym same))) (λ differ. ne_eqb i j differ ∙ sym (ne_eqb j i (λ e. differ (sym e)))) (cases_eq i j)

pub Marks-more : (old new visited : List ℕ) (page : ℕ) → Marks old visited → ((j : ℕ) → has_bit new j ≡ cond (eqb j page) true (has_bit old j))
    → Marks new (page ∷ visited)
Marks-more old new visited page m one = record {
  each = λ p. one p ∙ ap (λ t. cond (eqb p page) true t) (m.each p) ∙ marked_one page p (eqb p page) (list_any (λ v. eqb v p) visited) refl;
}

pub AreWithin-more : (size : ℕ) (old new : List ℕ) (page : ℕ) → 1 ≤ page → page < size
    → ((j : ℕ) → has_bit new j ≡ cond (eqb j page) true (has_bit old j)) → AreWithin size old → AreWithin size new
AreWithin-more size old new page low high one h = record {
  each = λ p t. ⊎_elim (λ same. (omega arith, omega arith))
      (λ differ. h.each p (sym (ap (λ b. cond b true (has_bit old p)) (ne_eqb p page differ)) ∙ sym (one p) ∙ t)) (cases_eq p page);
}

pub AreWithin-none : (size n : ℕ) → AreWithin size (replicate n 0)
AreWithin-none size n = record { each = λ p t. let f = no_bit_below n p in absurd (let z : false ≡ true = sym f ∙ t in cc) }
