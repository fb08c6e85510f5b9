-- The descent over a square: a block of its own, or its quarters in turn.
use Rattle.std.proofs.Common.{◌≡◌, ◌↔◌, ◌⊎◌, ℕ, ◌+◌, ◌<◌, ◌≤◌, List, ◌∷◌, ◌++◌, length, get_or, drop, refl, sym, ◌∙◌, subst, inl, inr, ⊎_elim, arith}
use Rattle.std.proofs.Common.{Contains, pow-suc, pow_pos, Option, Some, None}
use Rattle.std.specs.Prelude.{IfSome, IfNone}
use Rattle.std.proofs.lemmas.List.{drop_more, drop_all}
use Rattle.quilt_types.specs.declared.plane.Block.{Block}
use Rattle.quilt_types.specs.declared.plane.Seg.{Seg}
use Rattle.quilt_types.specs.Plane.{side, quarters_of, IsBlock}
use Rattle.quilt_loc.proofs.Quartered.{quarters_are}
use Rattle.quilt_edits.proofs.Lists.{member_at}
use Rattle.quilt_line_audit.specs.declared.pair.Pair.{Pair}
use Rattle.quilt_line_audit.specs.Pairs.{near, pairs_on, EachInTurn, BeginsWithPairs}
use Rattle.quilt_line_audit.proofs.Begins.{of_first, not_both, begins_once, near_begins, turn_map, quarter_side}

-- a pair of the block comes first
pub record ComesFirst (b : Block) (pairs : List Pair) : Type 0 where
  pub first : Pair
  pub more : List Pair
  pub are : pairs ≡ first ∷ more
  pub on : first.block ≡ b

-- the square has one pixel, or a pair of its own comes first
abbrev pub IsLeaf : Block → List Pair → Type 0
IsLeaf b pairs = (b.side ≡ 1) ⊎ ComesFirst b pairs

-- ---- a block
pub leaf_some : (b : Block) (segs : List (ℕ × Seg)) (k : ℕ) (pairs rest : List Pair) → pairs ≡ pairs_on segs b ++ rest → BeginsWithPairs segs k b pairs rest
leaf_some b segs ℕ.zero pairs rest e = e
leaf_some b segs (ℕ.suc k) pairs rest e = inl e

pub leaf_none : (b : Block) (segs : List (ℕ × Seg)) (pairs : List Pair) → IsLeaf b pairs → ((rest : List Pair) → pairs ≡ pairs_on segs b ++ rest → ⊥)
    → (k : ℕ) (rest : List Pair) → b.side ≡ side k → BeginsWithPairs segs k b pairs rest → ⊥
leaf_none b segs pairs leaf none ℕ.zero rest e h = none rest h
leaf_none b segs pairs leaf none (ℕ.suc k) rest e h =
    ⊎_elim (λ here. none rest here)
    (λ turn.
    ⊎_elim (λ one. let p = pow-suc 2 k in let q = pow_pos k in omega arith)
    (λ f. not_both k b segs pairs rest f.first f.more e turn f.are f.on) leaf) h

module _ (b : Block) (segs found : List (ℕ × Seg)) (is : found ≡ near b segs) where
  -- ---- a square that is cut
  module _ (block : IsBlock 12 b) (wide : b.side ≡ 1 → ⊥) where
    pub more_than_one : 1 < b.side
    more_than_one = at block.level block.size
      where
        at : (k : ℕ) → b.side ≡ side k → 1 < b.side
        at ℕ.zero e = absurd (wide e)
        at (ℕ.suc k) e = let p = pow-suc 2 k in let q = pow_pos k in omega arith

    to_near : (k : ℕ) (pairs rest : List Pair) → b.side ≡ side (ℕ.suc k) → EachInTurn (BeginsWithPairs segs k) (quarters_of b) pairs rest
        ↔ EachInTurn (BeginsWithPairs found k) (quarters_of b) pairs rest
    to_near k pairs rest e =
        let part = λ (q : Block) (c : Contains (quarters_of b) q). quarters_are 12 b q block more_than_one c in
        let law = λ (q : Block) (ps r : List Pair) (c : Contains (quarters_of b) q).
        near_begins 12 b segs k q ps r (part q c).block (quarter_side k b q e c) (part q c).within in (
          λ h. subst (λ (l : List (ℕ × Seg)). EachInTurn (BeginsWithPairs l k) (quarters_of b) pairs rest) (sym is)
              (turn_map (BeginsWithPairs segs k) (BeginsWithPairs (near b segs) k) (quarters_of b) (λ q ps r c. (law q ps r c).1) pairs rest h),
          λ h. turn_map (BeginsWithPairs (near b segs) k) (BeginsWithPairs segs k) (quarters_of b) (λ q ps r c. (law q ps r c).0) pairs rest
              (subst (λ (l : List (ℕ × Seg)). EachInTurn (BeginsWithPairs l k) (quarters_of b) pairs rest) is h),
        )

    pub cut_some : (qs : List Block) → qs ≡ quarters_of b → (pairs rest : List Pair)
        → ((j : ℕ) → b.side ≡ side (ℕ.suc j) → EachInTurn (BeginsWithPairs found j) qs pairs rest)
        → (k : ℕ) → b.side ≡ side k → BeginsWithPairs segs k b pairs rest
    cut_some qs four pairs rest turn ℕ.zero e = absurd (wide e)
    cut_some qs four pairs rest turn (ℕ.suc k) e =
        inr ((to_near k pairs rest e).1 (subst (λ (l : List Block). EachInTurn (BeginsWithPairs found k) l pairs rest) four (turn k e)))

    pub cut_none : (qs : List Block) → qs ≡ quarters_of b → (pairs : List Pair) → ((p : Pair) (more : List Pair) → pairs ≡ p ∷ more → p.block ≡ b → ⊥)
        → ((j : ℕ) (rest : List Pair) → b.side ≡ side (ℕ.suc j) → EachInTurn (BeginsWithPairs found j) qs pairs rest → ⊥) → (k : ℕ) (rest : List Pair)
        → b.side ≡ side k → BeginsWithPairs segs k b pairs rest → ⊥
    cut_none qs four pairs away none ℕ.zero rest e h = wide e
    cut_none qs four pairs away none (ℕ.suc k) rest e h =
        ⊎_elim (λ here. let f = of_first b (near b segs) rest in away f.first f.more (here ∙ f.are) f.on)
        (λ turn. none k rest e (subst (λ (l : List Block). EachInTurn (BeginsWithPairs found k) l pairs rest) (sym four) ((to_near k pairs rest e).0 turn))) h

-- ---- one quarter more
module _ (k : ℕ) (found : List (ℕ × Seg)) (qs : List Block) (i : ℕ) (d : Block) (lt : i < length qs) (pairs : List Pair) where
  abbrev quarter : Block
  quarter = get_or qs i d

  abbrev Goes : List Block → List Pair → List Pair → Type 0
  Goes = EachInTurn (BeginsWithPairs found k)

  pub turn_stops : (rest : List Pair) → ((mid : List Pair) → BeginsWithPairs found k quarter pairs mid → ⊥) → Goes (drop i qs) pairs rest → ⊥
  turn_stops rest none h = let g = subst (λ (l : List Block). Goes l pairs rest) (drop_more qs i d lt) h in none g.0 g.1

  pub turn_goes : (next : List Pair) → quarter.side ≡ side k → BeginsWithPairs found k quarter pairs next → (rest : List Pair)
      → Goes (drop (i + 1) qs) next rest ↔ Goes (drop i qs) pairs rest
  turn_goes next e here rest = (
    λ h. subst (λ (l : List Block). Goes l pairs rest) (sym (drop_more qs i d lt)) (next, here, h),
    λ h.
        let g = subst (λ (l : List Block). Goes l pairs rest) (drop_more qs i d lt) h in
        subst (λ (m : List Pair). Goes (drop (i + 1) qs) m rest) (begins_once k quarter found pairs g.0 next e g.1 here) g.2,
  )

pub turn_done : (k : ℕ) (found : List (ℕ × Seg)) (qs : List Block) (i : ℕ) (pairs : List Pair) → length qs ≤ i → EachInTurn (BeginsWithPairs found k) (drop i qs) pairs pairs
turn_done k found qs i pairs le = subst (λ (l : List Block). EachInTurn (BeginsWithPairs found k) l pairs pairs) (sym (drop_all i qs le)) refl

-- the quarter at a place
pub quarter_side_at : (k : ℕ) (b : Block) (qs : List Block) (i : ℕ) (d : Block) → b.side ≡ side (ℕ.suc k) → qs ≡ quarters_of b → i < 4
    → (get_or qs i d).side ≡ side k
quarter_side_at k b qs i d e four lt =
    let long : length (quarters_of b) ≡ 4 = refl in
    quarter_side k b (get_or qs i d) e
    (subst (λ (l : List Block). Contains (quarters_of b) (get_or l i d)) (sym four) (member_at (quarters_of b) i d (omega arith)))

-- ---- what is answered
pub some_map : {X : Type 0} (o : Option X) {P Q : X → Type 0} → ((x : X) → P x → Q x) → IfSome o P → IfSome o Q
some_map (Some x) f h = f x h
some_map None f h = tt

pub none_map : {X : Type 0} (o : Option X) {P Q : Type 0} → (P → Q) → IfNone o P → IfNone o Q
none_map (Some x) f h = tt
none_map None f h = f h

pub some_from : {X : Type 0} (o : Option X) (x : X) (P : X → Type 0) → o ≡ Some x → IfSome o P → P x
some_from (Some y) x P e h = let same : y ≡ x = cc in subst P same h
some_from None x P e h = cc

pub none_from : {X P : Type 0} (o : Option X) → o ≡ None → IfNone o P → P
none_from (Some y) e h = cc
none_from None e h = h
