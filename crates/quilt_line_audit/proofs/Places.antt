-- Pairs of a block that are looked for one after the other.
use Rattle.std.proofs.Common.{◌≡◌, ◌↔◌, ℕ, ◌+◌, ◌<◌, Bool, true, false, cond, List, [], ◌∷◌, ◌++◌, map, length, get_or, drop, refl, sym, ◌∙◌, ap, arith}
use Rattle.std.proofs.lemmas.List.{drop_more}
use Rattle.quilt_types.specs.declared.plane.Block.{Block}
use Rattle.quilt_types.specs.declared.plane.Seg.{Seg}
use Rattle.quilt_types.specs.Segments.{square, meets}
use Rattle.quilt_line_audit.specs.declared.pair.Pair.{Pair}
use Rattle.quilt_line_audit.specs.Pairs.{near, none_pair, pair_on, block_pairs}

pub some_pairs : (b : Block) (segs : List (ℕ × Seg)) → 0 < length segs → block_pairs b segs ≡ map (pair_on b) segs
some_pairs b [] lt = absurd (omega arith)
some_pairs b (d ∷ ds) lt = refl

pub no_pairs : (b : Block) (segs : List (ℕ × Seg)) → length segs ≡ 0 → block_pairs b segs ≡ none_pair b ∷ []
no_pairs b [] e = refl
no_pairs b (d ∷ ds) e = absurd (omega arith)

same_tail : (p : Pair) (xs ys : List Pair) → p ∷ xs ≡ p ∷ ys → xs ≡ ys
same_tail p xs ys e = cc

module _ (b : Block) (segs : List (ℕ × Seg)) (i : ℕ) (d : ℕ × Seg) (lt : i < length segs) where
  abbrev here : ℕ × Seg
  here = get_or segs i d

  abbrev more : List (ℕ × Seg)
  more = near b (drop (i + 1) segs)

  next : (t : Bool) → meets here.1 (square b) ≡ t → near b (drop i segs) ≡ cond t (here ∷ more) more
  next t e = ap (near b) (drop_more segs i d lt) ∙ ap (λ (u : Bool). cond u (here ∷ more) more) e

  -- a segment that does not meet the block has no pair
  pub near_skips : meets here.1 (square b) ≡ false → near b (drop i segs) ≡ more
  near_skips e = next false e

  pub near_takes : meets here.1 (square b) ≡ true → near b (drop i segs) ≡ here ∷ more
  near_takes e = next true e

  module _ (pairs : List Pair) (end : ℕ) (met : meets here.1 (square b) ≡ true) where
    next_pairs : (rest : List Pair) → map (pair_on b) (near b (drop i segs)) ++ rest ≡ pair_on b here ∷ map (pair_on b) more ++ rest
    next_pairs rest = ap (λ (l : List (ℕ × Seg)). map (pair_on b) l ++ rest) (near_takes met)

    -- the next pair is not there
    pub pair_misses : (rest : List Pair) → ((after : List Pair) → drop end pairs ≡ pair_on b here ∷ after → ⊥)
        → drop end pairs ≡ map (pair_on b) (near b (drop i segs)) ++ rest → ⊥
    pair_misses rest none e = none (map (pair_on b) more ++ rest) (e ∙ next_pairs rest)

    -- it is, and the others come behind it
    pub pair_found : (behind : ℕ) (rest : List Pair) → drop end pairs ≡ pair_on b here ∷ drop behind pairs
        → (drop behind pairs ≡ map (pair_on b) more ++ rest) ↔ (drop end pairs ≡ map (pair_on b) (near b (drop i segs)) ++ rest)
    pair_found behind rest is = (
      λ h. is ∙ ap (λ l. pair_on b here ∷ l) h ∙ sym (next_pairs rest),
      λ h. same_tail (pair_on b here) (drop behind pairs) (map (pair_on b) more ++ rest) (sym is ∙ h ∙ next_pairs rest),
    )
