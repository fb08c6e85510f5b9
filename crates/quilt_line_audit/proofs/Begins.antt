-- What a list of pairs begins with: it begins with one thing alone, and a square's segments are enough for its quarters.
use Rattle.std.proofs.Common.{◌≡◌, ◌↔◌, ℕ, ◌/◌, ◌≤◌, Bool, true, false, cond, List, [], ◌∷◌, ◌++◌, map, filter, refl, sym, ◌∙◌, ap, subst, inl, inr, ⊎_elim}
use Rattle.std.proofs.Common.{arith, Contains, pow-suc, pow_pos}
use Rattle.quilt_types.specs.declared.plane.Block.{Block}
use Rattle.quilt_types.specs.declared.plane.Seg.{Seg}
use Rattle.quilt_types.specs.Plane.{side, quarters_of, IsBlock, Within}
use Rattle.quilt_types.specs.Segments.{square, meets}
use Rattle.quilt_loc.proofs.Members.{Contains-nil, Contains-here, Contains-there, Contains-cons_cases}
use Rattle.quilt_loc.proofs.Nesting.{Within-trans}
use Rattle.quilt_loc.proofs.Quartered.{quarters_are}
use Rattle.quilt_line_laws.proofs.Meeting.{meets_within}
use Rattle.quilt_line_audit.specs.declared.pair.Pair.{Pair}
use Rattle.quilt_line_audit.specs.Pairs.{near, none_pair, pair_on, block_pairs, pairs_on, EachInTurn, BeginsWithPairs}
use Rattle.quilt_types.proofs.Lists.{filter_twice}

-- ---- the pairs of a block have a first one
pub record HasFirst (b : Block) (pairs : List Pair) : Type 0 where
  pub first : Pair
  pub more : List Pair
  pub are : pairs ≡ first ∷ more
  pub on : first.block ≡ b

pub of_first : (b : Block) (segs : List (ℕ × Seg)) (rest : List Pair) → HasFirst b (block_pairs b segs ++ rest)
of_first b [] rest = record { first = none_pair b; more = rest; are = refl; on = refl }
of_first b (e ∷ es) rest = record { first = pair_on b e; more = map (pair_on b) es ++ rest; are = refl; on = refl }

same_first : (p q : Pair) (ps qs : List Pair) → p ∷ ps ≡ q ∷ qs → p ≡ q
same_first p q ps qs e = cc

same_rest : (xs ys zs : List Pair) → xs ++ ys ≡ xs ++ zs → ys ≡ zs
same_rest [] ys zs e = e
same_rest (x ∷ xs) ys zs e = same_rest xs ys zs (let r : xs ++ ys ≡ xs ++ zs = cc in r)

-- ---- the first pair is of a block no larger than the square
pub record IsSmall (most : ℕ) (pairs : List Pair) : Type 0 where
  pub first : Pair
  pub more : List Pair
  pub are : pairs ≡ first ∷ more
  pub small : first.block.side ≤ most

whole_small : (b : Block) (segs : List (ℕ × Seg)) (pairs rest : List Pair) → pairs ≡ pairs_on segs b ++ rest → IsSmall b.side pairs
whole_small b segs pairs rest e =
    let f = of_first b (filter (λ (d : ℕ × Seg). meets d.1 (square b)) segs) rest in
    let s = ap (λ (z : Block). z.side) f.on in
    record { first = f.first; more = f.more; are = e ∙ f.are; small = omega arith }

half_side : (k : ℕ) (b : Block) → b.side ≡ side (ℕ.suc k) → b.side / 2 ≡ side k
half_side k b e = let p = pow-suc 2 k in omega arith

pub small_first : (k : ℕ) (b : Block) (segs : List (ℕ × Seg)) (pairs rest : List Pair) → b.side ≡ side k → BeginsWithPairs segs k b pairs rest → IsSmall b.side pairs
small_first ℕ.zero b segs pairs rest e h = whole_small b segs pairs rest h
small_first (ℕ.suc k) b segs pairs rest e h =
    ⊎_elim (λ here. whole_small b segs pairs rest here)
    (λ turn.
    let s = small_first k (record { x = b.x; y = b.y; side = b.side / 2 }) segs pairs turn.0 (half_side k b e) turn.1 in
    let l = s.small in
    let p = pow-suc 2 k in
    let f = half_side k b e in
    record { first = s.first; more = s.more; are = s.are; small = omega arith }) h

-- a square that is cut does not begin with a pair of its own
pub not_both : (k : ℕ) (b : Block) (segs : List (ℕ × Seg)) (pairs rest : List Pair) (p : Pair) (more : List Pair) → b.side ≡ side (ℕ.suc k)
    → EachInTurn (BeginsWithPairs segs k) (quarters_of b) pairs rest
    → pairs ≡ p ∷ more → p.block ≡ b → ⊥
not_both k b segs pairs rest p more e turn is on =
    let s = small_first k (record { x = b.x; y = b.y; side = b.side / 2 }) segs pairs turn.0 (half_side k b e) turn.1 in
    let l = s.small in
    let f = half_side k b e in
    let same = ap (λ (q : Pair). q.block.side) (same_first s.first p s.more more (sym s.are ∙ is)) in
    let here = ap (λ (z : Block). z.side) on in
    let pos = pow_pos k in
    let d = pow-suc 2 k in
    omega arith

-- ---- it begins with one thing alone
-- what holds of each block of a row
abbrev pub Each : (Block → Type 0) → List Block → Type 0
Each P [] = Unit {0}
Each P (q ∷ qs) = P q × Each P qs

pub each_at : (P : Block → Type 0) (qs : List Block) → Each P qs → (q : Block) → Contains qs q → P q
each_at P [] h q c = absurd (Contains-nil q c)
each_at P (r ∷ qs) h q c = ⊎_elim (λ e. subst P e h.0) (λ d. each_at P qs h.1 q d) (Contains-cons_cases r qs q c)

quarter_sides : (k : ℕ) (b : Block) → b.side ≡ side (ℕ.suc k) → Each (λ q. q.side ≡ side k) (quarters_of b)
quarter_sides k b e = let f = half_side k b e in (f, (f, (f, (f, tt))))

pub quarter_side : (k : ℕ) (b q : Block) → b.side ≡ side (ℕ.suc k) → Contains (quarters_of b) q → q.side ≡ side k
quarter_side k b q e c = each_at (λ r. r.side ≡ side k) (quarters_of b) (quarter_sides k b e) q c

turn_once : (P : Block → List Pair → List Pair → Type 0) (A : Block → Type 0) → ((b : Block) (pairs r s : List Pair) → A b → P b pairs r → P b pairs s → r ≡ s)
    → (qs : List Block) → Each A qs → (pairs r s : List Pair) → EachInTurn P qs pairs r → EachInTurn P qs pairs s → r ≡ s
turn_once P A one [] a pairs r s h g = sym h ∙ g
turn_once P A one (q ∷ qs) a pairs r s h g =
    turn_once P A one qs a.1 h.0 r s h.2 (subst (λ (m : List Pair). EachInTurn P qs m s) (sym (one q pairs h.0 g.0 a.0 h.1 g.1)) g.2)

cut_and_whole : (k : ℕ) (b : Block) (segs : List (ℕ × Seg)) (pairs r s : List Pair) → b.side ≡ side (ℕ.suc k) → pairs ≡ pairs_on segs b ++ r
    → EachInTurn (BeginsWithPairs segs k) (quarters_of b) pairs s → ⊥
cut_and_whole k b segs pairs r s e here turn =
    let f = of_first b (filter (λ (d : ℕ × Seg). meets d.1 (square b)) segs) r in
    not_both k b segs pairs s f.first f.more e turn (here ∙ f.are) f.on

pub begins_once : (k : ℕ) (b : Block) (segs : List (ℕ × Seg)) (pairs r s : List Pair) → b.side ≡ side k → BeginsWithPairs segs k b pairs r
    → BeginsWithPairs segs k b pairs s → r ≡ s
begins_once ℕ.zero b segs pairs r s e h g = same_rest (pairs_on segs b) r s (sym h ∙ g)
begins_once (ℕ.suc k) b segs pairs r s e h g =
    ⊎_elim
    (λ a. ⊎_elim (λ c. same_rest (pairs_on segs b) r s (sym a ∙ c)) (λ t. absurd (cut_and_whole k b segs pairs r s e a t)) g)
    (λ t.
    ⊎_elim (λ c. absurd (cut_and_whole k b segs pairs s r e c t))
    (λ u. turn_once (BeginsWithPairs segs k) (λ q. q.side ≡ side k) (λ q ps x y f i j. begins_once k q segs ps x y f i j) (quarters_of b)
    (quarter_sides k b e) pairs r s t u) g) h

-- ---- the segments that meet a square are enough for its quarters
keeps : {X : Type 0} (p r : X → Bool) (x : X) (xs : List X) (t : Bool) → p x ≡ t → (r x ≡ true → p x ≡ true) → filter r (cond t (x ∷ xs) xs) ≡ filter r (x ∷ xs)
keeps p r x xs true e h = refl
keeps p r x xs false e h = sym (dropped (r x) refl)
  where
    dropped : (u : Bool) → r x ≡ u → cond u (x ∷ filter r xs) (filter r xs) ≡ filter r xs
    dropped true g = absurd (let no : false ≡ true = sym e ∙ h g in cc)
    dropped false g = refl

pub near_pairs : (b q : Block) (segs : List (ℕ × Seg)) → Within q b → pairs_on (near b segs) q ≡ pairs_on segs q
near_pairs b q segs w =
    ap (block_pairs q) (filter_twice (λ (e : ℕ × Seg). meets e.1 (square b)) (λ e. meets e.1 (square q)) (λ e t. meets_within e.1 q b w t) segs)

pub turn_map : (P Q : Block → List Pair → List Pair → Type 0) (qs : List Block)
    → ((q : Block) (ps r : List Pair) → Contains qs q → P q ps r → Q q ps r) → (pairs rest : List Pair)
    → EachInTurn P qs pairs rest → EachInTurn Q qs pairs rest
turn_map P Q [] f pairs rest h = h
turn_map P Q (q ∷ qs) f pairs rest h =
    (h.0, f q pairs h.0 (Contains-here q qs) h.1, turn_map P Q qs (λ r ps s c. f r ps s (Contains-there q qs r c)) h.0 rest h.2)

module _ (n : ℕ) (b : Block) (segs : List (ℕ × Seg)) where
  pub near_begins : (k : ℕ) (q : Block) (pairs rest : List Pair) → IsBlock n q → q.side ≡ side k → Within q b → BeginsWithPairs (near b segs) k q pairs rest
      ↔ BeginsWithPairs segs k q pairs rest
  near_begins ℕ.zero q pairs rest hq e w =
      let same = ap (λ (l : List Pair). l ++ rest) (near_pairs b q segs w) in
      (λ h. h ∙ same, λ h. h ∙ sym same)
  near_begins (ℕ.suc k) q pairs rest hq e w =
      let same = ap (λ (l : List Pair). l ++ rest) (near_pairs b q segs w) in
      let p = pow-suc 2 k in
      let pos = pow_pos k in
      let part = λ (r : Block) (c : Contains (quarters_of q) r). quarters_are n q r hq (omega arith) c in
      let below = λ (r : Block) (ps s : List Pair) (c : Contains (quarters_of q) r). near_begins k r ps s (part r c).block (quarter_side k q r e c)
      (Within-trans r q b (part r c).within w) in (
        ⊎_elim (λ h. inl (h ∙ same))
            (λ t. inr (turn_map (BeginsWithPairs (near b segs) k) (BeginsWithPairs segs k) (quarters_of q) (λ r ps s c. (below r ps s c).0) pairs rest t)),
        ⊎_elim (λ h. inl (h ∙ sym same))
            (λ t. inr (turn_map (BeginsWithPairs segs k) (BeginsWithPairs (near b segs) k) (quarters_of q) (λ r ps s c. (below r ps s c).1) pairs rest t)),
      )
