-- The blocks of a layer, each once, by a descent from the whole square, and how many of each side.
use Rattle.std.proofs.Common.{◌≡◌, ◌↔◌, ℕ, ◌+◌, ◌*◌, ◌^◌, ◌-◌, ◌<◌, ◌≤◌, Bool, true, false, cond}
use Rattle.std.proofs.Common.{List, [], ◌∷◌, ◌++◌, flat_map, filter, length, take, get_or, replicate, count_by, refl, sym}
use Rattle.std.proofs.Common.{◌∙◌, ap, subst, ⊎_elim, arith, Contains, pow-suc, length-append, eq-eqb, ne_eqb, pow_pos}
use Rattle.std.proofs.Math.Nat.{mul-le-mul_right, pow-le-pow_right}
use Rattle.std.specs.Prelude.{◌==◌}
use Rattle.std.specs.List.{sum_by}
use Rattle.std.proofs.lemmas.Bool.{both_ways, cases_eq}
use Rattle.std.proofs.lemmas.List.{append-nil}
use Rattle.std.proofs.lemmas.List.Sums.{length-filter}
use Rattle.std.proofs.lemmas.List.Elements.{filter-append}
use Rattle.std.proofs.lemmas.Grind.{flat_map-append}
use Rattle.quilt_types.specs.Sets as finset
use Rattle.quilt_types.specs.declared.plane.Block.{Block}
use Rattle.quilt_types.specs.declared.plane.Seg.{Seg}
use Rattle.quilt_types.specs.Plane.{side, quarters_of, whole, block_cmp, IsBlock, Within}
use Rattle.quilt_types.specs.Layers.{SegMap, BlockSet, IsLineMap}
use Rattle.quilt_loc.proofs.Members.{Contains-nil, Contains-here, Contains-filter, Contains-filter_from}
use Rattle.quilt_loc.proofs.Nesting.{side_pos}
use Rattle.quilt_loc.proofs.PlaneOrders.{block_total}
use Rattle.quilt_loc.proofs.Quartered.{IsBlock-whole, Within-whole}
use Rattle.quilt_spell.specs.Apart.{Apart}
use Rattle.quilt_spell.proofs.facts.FactKeys.{block_same}
use Rattle.quilt_spell.proofs.Lists.{Apart-filter, Apart-rises, same_length}
use Rattle.quilt_spell.proofs.Maps.{Rises-keys}
use Rattle.quilt_edits.proofs.Lists.{take_next}
use Rattle.quilt_line_laws.proofs.Adding.{cover_of}
use Rattle.quilt_line_laws.proofs.Descent.{only, same_size, quarterly, one_old, off, held}
use Rattle.quilt_line_laws.proofs.Levels.{same_level}
use Rattle.quilt_line_laws.proofs.Merges.{IsBlockCover}
use Rattle.quilt_line_laws.proofs.NoneTwice.{over_quarters, single_apart}
use Rattle.quilt_line_laws.proofs.SetLaws.{contains_is}
use Rattle.quilt_lines.specs.Counting.{held_in, pages_in}

within_self : (b : Block) → Within b b
within_self b = record { left = omega arith; right = omega arith; top = omega arith; bottom = omega arith }

-- ---- the descent finds the blocks of the set, each once
module _ (n t : ℕ) (segs : SegMap) (cover : BlockSet) (h : IsBlockCover n cover) where
  -- the laws of a descent take a segment, of which nothing is said here
  abbrev any : Seg
  any = record { x1 = 0; y1 = 0; x2 = 0; y2 = 0 }

  abbrev Held : Block → Type 0
  Held q = Contains (finset.items cover) q

  here : (b q : Block) → Held b → Contains (b ∷ []) q ↔ (Within q b × Held q)
  here b q m = (
    λ c. subst (λ (z : Block). Within z b × Held z) (only b q c) (within_self b, m),
    λ w. subst (Contains (b ∷ [])) (sym (one_old n t segs cover any h q b w.1 m w.0)) (Contains-here b []),
  )

  held_tiny : (b q : Block) → IsBlock n b → b.side ≡ side 0 → (u : Bool) → finset.contains cover b ≡ u
      → Contains (cond {A = List Block} u (b ∷ []) []) q ↔ (Within q b × Held q)
  held_tiny b q hb e true is = here b q (held n t segs cover any h b is)
  held_tiny b q hb e false is = (
    λ c. absurd (Contains-nil q c),
    λ w.
        let hq = h.only q w.1 in
        let pos = side_pos n q hq in
        let same = same_size n q b hq hb w.0 (omega arith) in
        absurd (both_ways (finset.contains cover b) is ((contains_is block_total block_same cover b).1 (subst (Contains (finset.items cover)) same w.1))),
  )

  held_step : (k : ℕ) (b q : Block) → IsBlock n b → b.side ≡ side (ℕ.suc k)
      → ((r : Block) → IsBlock n r → r.side ≡ side k → Contains (held_in cover k r) q ↔ (Within q r × Held q))
      → (u : Bool) → finset.contains cover b ≡ u
      → Contains (cond {A = List Block} u (b ∷ []) (flat_map (held_in cover k) (quarters_of b))) q ↔ (Within q b × Held q)
  held_step k b q hb e below true is = here b q (held n t segs cover any h b is)
  held_step k b q hb e below false is =
      quarterly n t segs cover any h k b q (held_in cover k) Held hb e (λ m. h.only q m) (λ m same. off n t segs cover any h b q is m same)
      (λ r c hr er _. below r hr er)

  held_law : (k : ℕ) (b q : Block) → IsBlock n b → b.side ≡ side k → Contains (held_in cover k b) q ↔ (Within q b × Held q)
  held_law ℕ.zero b q hb e = held_tiny b q hb e (finset.contains cover b) refl
  held_law (ℕ.suc k) b q hb e = held_step k b q hb e (λ r hr er. held_law k r q hr er) (finset.contains cover b) refl

  tiny_apart : (b : Block) (u : Bool) → Apart (cond {A = List Block} u (b ∷ []) [])
  tiny_apart b true = single_apart b
  tiny_apart b false = tt

  apart_step : (k : ℕ) (b : Block) → IsBlock n b → b.side ≡ side (ℕ.suc k) → ((r : Block) → IsBlock n r → r.side ≡ side k → Apart (held_in cover k r))
      → (u : Bool) → Apart (cond {A = List Block} u (b ∷ []) (flat_map (held_in cover k) (quarters_of b)))
  apart_step k b hb e below true = single_apart b
  apart_step k b hb e below false = over_quarters n t segs any k b (held_in cover k) hb e
      (λ r c hr er _. (below r hr er, λ q m. let w = (held_law k r q hr er).0 m in (h.only q w.1, w.0)))

  apart_law : (k : ℕ) (b : Block) → IsBlock n b → b.side ≡ side k → Apart (held_in cover k b)
  apart_law ℕ.zero b hb e = tiny_apart b (finset.contains cover b)
  apart_law (ℕ.suc k) b hb e = apart_step k b hb e (λ r hr er. apart_law k r hr er) (finset.contains cover b)

-- as many pass a test among them as in the set
pub all_held : (n t : ℕ) (segs : SegMap) (cover : BlockSet) → IsLineMap n t segs cover → (test : Block → Bool)
    → count_by test (held_in cover n (whole n)) ≡ count_by test (finset.items cover)
all_held n t segs cover valid test =
    let h = cover_of n t segs cover valid in
    let found = held_in cover n (whole n) in
    let bs = finset.items cover in
    sym (length-filter test found)
    ∙ same_length (filter test found) (filter test bs) (Apart-filter test found (apart_law n t segs cover h n (whole n) (IsBlock-whole n) refl))
    (Apart-filter test bs (Apart-rises block_cmp block_total bs (Rises-keys block_cmp cover)))
    (λ q.
    let law = held_law n t segs cover h n (whole n) q (IsBlock-whole n) refl in (
      λ c. let w = Contains-filter_from test found q c in Contains-filter test bs q (law.0 w.0).1 w.1,
      λ c. let w = Contains-filter_from test bs q c in Contains-filter test found q (law.1 (Within-whole n q (h.only q w.0), w.0)) w.1,
    ))
    ∙ length-filter test bs

-- ---- how many there are in a block
module _ (cover : BlockSet) where
  pub held_here : (k : ℕ) (b : Block) → finset.contains cover b ≡ true → held_in cover k b ≡ b ∷ []
  held_here ℕ.zero b e = ap (λ u. cond {A = List Block} u (b ∷ []) []) e
  held_here (ℕ.suc k) b e = ap (λ u. cond {A = List Block} u (b ∷ []) (flat_map (held_in cover k) (quarters_of b))) e

  pub held_below : (k : ℕ) (b : Block) → 0 < k → finset.contains cover b ≡ false → held_in cover k b ≡ flat_map (held_in cover (k - 1)) (quarters_of b)
  held_below ℕ.zero b some e = absurd (omega arith)
  held_below (ℕ.suc k) b some e =
      let same : k ≡ ℕ.suc k - 1 = omega arith in
      ap (λ u. cond {A = List Block} u (b ∷ []) (flat_map (held_in cover k) (quarters_of b))) e
      ∙ ap (λ (m : ℕ). flat_map (held_in cover m) (quarters_of b)) same

-- ---- how many pages are read
six_or : (u : Bool) (m : ℕ) → 6 ≤ cond {A = ℕ} u 6 (6 + m)
six_or true m = omega arith
six_or false m = omega arith

pub pages_some : (cover : BlockSet) (k : ℕ) (b : Block) → 6 ≤ pages_in cover k b
pages_some cover ℕ.zero b = omega arith
pages_some cover (ℕ.suc k) b = six_or (finset.contains cover b) (sum_by (pages_in cover k) (quarters_of b))

-- a block that is none of the set costs a look and those at its quarters
pub pages_below : (cover : BlockSet) (k : ℕ) (b : Block) (qs : List Block) → 0 < k → finset.contains cover b ≡ false → qs ≡ quarters_of b
    → 6 + sum_by (pages_in cover (k - 1)) qs ≤ pages_in cover k b
pages_below cover ℕ.zero b qs some e are = absurd (omega arith)
pages_below cover (ℕ.suc k) b qs some e are =
    let same : ℕ.suc k - 1 ≡ k = omega arith in
    let all : 6 + sum_by (pages_in cover (ℕ.suc k - 1)) qs ≡ 6 + sum_by (pages_in cover k) (quarters_of b) =
    ap (λ (m : ℕ). 6 + sum_by (pages_in cover m) qs) same ∙ ap (λ (bs : List Block). 6 + sum_by (pages_in cover k) bs) are in
    let here : pages_in cover (ℕ.suc k) b ≡ 6 + sum_by (pages_in cover k) (quarters_of b) =
    ap (λ u. cond {A = ℕ} u 6 (6 + sum_by (pages_in cover k) (quarters_of b))) e in
    omega arith

count-append : {X : Type 0} (p : X → Bool) (xs ys : List X) → count_by p (xs ++ ys) ≡ count_by p xs + count_by p ys
count-append p xs ys =
    let all = length-filter p (xs ++ ys) in
    let first = length-filter p xs in
    let rest = length-filter p ys in
    let parts = ap length (filter-append p xs ys) ∙ length-append (filter p xs) (filter p ys) in
    omega arith

count_single : {X : Type 0} (p : X → Bool) (x : X) (u : Bool) → p x ≡ u → count_by p (x ∷ []) ≡ cond u 1 0
count_single {X} p x true e = sym (length-filter p (x ∷ [])) ∙ ap (λ (v : Bool). length (cond {A = List X} v (x ∷ []) [])) e
count_single {X} p x false e = sym (length-filter p (x ∷ [])) ∙ ap (λ (v : Bool). length (cond {A = List X} v (x ∷ []) [])) e

pub four_pos : (k : ℕ) → 1 ≤ 4 ^ k
four_pos ℕ.zero = omega arith
four_pos (ℕ.suc k) = let below = four_pos k in let p = pow-suc 4 k in omega arith

-- one block more at the place of its side
pub one_counted : (b : Block) (k : ℕ) (old new : List ℕ) → b.side ≡ side k → get_or new k 0 ≡ get_or old k 0 + 1
    → ((j : ℕ) → (j ≡ k → ⊥) → get_or new j 0 ≡ get_or old j 0)
    → (j : ℕ) → get_or new j 0 ≡ get_or old j 0 + count_by (λ c. c.side == side j) (b ∷ [])
one_counted b k old new size here others j =
    ⊎_elim
    (λ same.
    let one = count_single (λ (c : Block). c.side == side j) b true (eq-eqb b.side (side j) (size ∙ ap side (sym same))) in
    let at = ap (λ m. get_or new m 0) same in
    let was = ap (λ m. get_or old m 0) same in
    omega arith)
    (λ other.
    let none = count_single (λ (c : Block). c.side == side j) b false (ne_eqb b.side (side j) (λ e. other (same_level j k (sym e ∙ size)))) in
    let at = others j other in
    omega arith) (cases_eq j k)

pub one_most : (k : ℕ) (old new : List ℕ) → get_or new k 0 ≡ get_or old k 0 + 1 → ((j : ℕ) → (j ≡ k → ⊥) → get_or new j 0 ≡ get_or old j 0) → (j : ℕ)
    → get_or new j 0 ≤ get_or old j 0 + 4 ^ k
one_most k old new here others j =
    let pos = four_pos k in
    ⊎_elim (λ same. let at = ap (λ m. get_or new m 0) same in let was = ap (λ m. get_or old m 0) same in omega arith)
    (λ other. let at = others j other in omega arith) (cases_eq j k)

module _ (f : Block → List Block) (test : Block → Bool) where
  pub count_next : (qs : List Block) (i : ℕ) (d : Block) (first old new : ℕ) → i < length qs → old ≡ first + count_by test (flat_map f (take i qs))
      → new ≡ old + count_by test (f (get_or qs i d)) → new ≡ first + count_by test (flat_map f (take (i + 1) qs))
  count_next qs i d first old new lt a b =
      let split : flat_map f (take (i + 1) qs) ≡ flat_map f (take i qs) ++ f (get_or qs i d) =
      ap (flat_map f) (take_next qs i d lt) ∙ flat_map-append f (take i qs) (get_or qs i d ∷ [])
      ∙ ap (λ (bs : List Block). flat_map f (take i qs) ++ bs) (append-nil (f (get_or qs i d))) in
      let count = ap (count_by test) split ∙ count-append test (flat_map f (take i qs)) (f (get_or qs i d)) in
      omega arith

-- ---- how many there are at most
pub four_fold : (k : ℕ) → 0 < k → 4 ^ k ≡ 4 * 4 ^ (k - 1)
four_fold ℕ.zero some = absurd (omega arith)
four_fold (ℕ.suc k) some = let same : ℕ.suc k - 1 ≡ k = omega arith in let p = pow-suc 4 k in let q = ap (λ m. 4 ^ m) same in omega arith

pub room_next : (i p a c : ℕ) → c ≤ a + i * p → i < 4 → c + p ≤ a + 4 * p
room_next i p a c h lt = let m = mul-le-mul_right p (let le : i + 1 ≤ 4 = omega arith in le) in omega arith

pub room_all : (i p a c : ℕ) → c ≤ a + i * p → i ≤ 4 → c ≤ a + 4 * p
room_all i p a c h le = let m = mul-le-mul_right p le in omega arith

pub room_step : (i p a c d : ℕ) → c ≤ a + i * p → d ≤ c + p → d ≤ a + (i + 1) * p
room_step i p a c d h k = omega arith

-- ---- sides
pub side_fold : (k : ℕ) → 0 < k → side k ≡ side (ℕ.suc (k - 1))
side_fold ℕ.zero some = absurd (omega arith)
side_fold (ℕ.suc k) some = let same : k ≡ ℕ.suc k - 1 = omega arith in ap (λ m. side (ℕ.suc m)) same

pub wide_side : (b : Block) (k : ℕ) → b.side ≡ side k → 0 < k → 1 < b.side
wide_side b k e some =
    let fold = side_fold k some in
    let p = pow-suc 2 (k - 1) in
    let pos = pow_pos (k - 1) in
    omega arith

-- ---- counts that begin
pub zeros_at : (n k : ℕ) → get_or (replicate {A = ℕ} n 0) k 0 ≡ 0
zeros_at ℕ.zero k = refl
zeros_at (ℕ.suc n) ℕ.zero = refl
zeros_at (ℕ.suc n) (ℕ.suc k) = zeros_at n k

pub first_room : (n z : ℕ) → n ≤ 12 → z ≡ 0 → z + 4 ^ n < 4294967296
first_room n z le e =
    let p : 4 ^ n ≤ 4 ^ 12 = pow-le-pow_right {n = 4} (let some : 0 < 4 = omega arith in some) le in
    omega arith
