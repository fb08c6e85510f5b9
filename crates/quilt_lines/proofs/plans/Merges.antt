-- Ids that meet blocks, and what is said of the blocks of a line layer when a segment goes.
use Rattle.std.proofs.Common.{◌≡◌, ℕ, ◌≤◌, false, List, [], ◌∷◌, ◌++◌, map, length, inl, inr, ⊎_elim, refl, sym, ap, subst, arith, Contains}
use Rattle.std.specs.Prelude.{◌==◌}
use Rattle.std.proofs.lemmas.List.{length-append}
use Rattle.std.proofs.lemmas.List.Elements.{Contains-append_left, Contains-append_right, Contains-append_cases}
use Rattle.quilt_types.specs.declared.plane.Block.{Block}
use Rattle.quilt_types.specs.Facts.{IsMetBy}
use Rattle.quilt_loc.proofs.Members.{Contains-nil, Contains-cons_cases}
use Rattle.quilt_spell.proofs.Lists.{Apart-append}
use Rattle.quilt_lines.specs.Layers.{fact_record}
use Rattle.quilt_lines.specs.Reads.{pair_of}
use Rattle.quilt_lines.specs.Merges.{pair_facts, AddsIds}

-- ---- the records of a block
pub some_pairs : (n layer : ℕ) (b : Block) (ids : List ℕ) → false ≡ (length ids == 0)
    → map (fact_record n layer) (pair_facts b ids) ≡ map (pair_of n layer b) ids
some_pairs n layer b [] e = cc
some_pairs n layer b (i ∷ ids) e = ap (λ l. pair_of n layer b i ∷ l) (pairs_are ids)
  where
    pairs_are : (xs : List ℕ) → map (fact_record n layer) (map (IsMetBy b) xs) ≡ map (pair_of n layer b) xs
    pairs_are [] = refl
    pairs_are (x ∷ xs) = ap (λ l. pair_of n layer b x ∷ l) (pairs_are xs)

-- ---- ids that come
pub adds_none : (most : ℕ) (ids : List ℕ) → AddsIds most ids [] ids
adds_none most ids = record { once = λ h. h; kept = λ i c. c; from = λ i c. inl c; grows = omega arith; all = λ lt i c. absurd (Contains-nil i c) }

pub adds_one : (most id : ℕ) (ids : List ℕ) → (Contains ids id → ⊥) → AddsIds most ids (id ∷ []) (ids ++ id ∷ [])
adds_one most id ids away = record {
  once = λ h. Apart-append ids (id ∷ []) h ((λ c. Contains-nil id c), tt)
      (λ i c d. away (subst (Contains ids) (sym (⊎_elim (λ e. e) (λ f. absurd (Contains-nil i f)) (Contains-cons_cases id [] i d))) c));
  kept = λ i c. Contains-append_left ids (id ∷ []) i c;
  from = λ i c. Contains-append_cases ids (id ∷ []) i c;
  grows = let l = length-append ids (id ∷ []) in omega arith;
  all = λ le i c. Contains-append_right ids (id ∷ []) i c;
}

pub adds_more : (most : ℕ) (old mid new xs ys : List ℕ) → AddsIds most old xs mid → AddsIds most mid ys new → AddsIds most old (xs ++ ys) new
adds_more most old mid new xs ys h k = record {
  once = λ a. k.once (h.once a);
  kept = λ i c. k.kept i (h.kept i c);
  from = λ i c.
      ⊎_elim (λ d. ⊎_elim (λ e. inl e) (λ e. inr (Contains-append_left xs ys i e)) (h.from i d)) (λ d. inr (Contains-append_right xs ys i d)) (k.from i c);
  grows = let a = h.grows in let b = k.grows in omega arith;
  all = λ le i c.
      let b = k.grows in
      ⊎_elim (λ d. k.kept i (h.all (omega arith) i d)) (λ d. k.all le i d) (Contains-append_cases xs ys i c);
}
