-- Finished siblings of one colour: a new block, a merge, and where there is none left.
use Rattle.std.proofs.Common.{◌≡◌, ℕ, suc, ◌+◌, ◌*◌, ◌/◌, ◌<◌, ◌≤◌, List, [], ◌∷◌, ◌++◌, map, length, get_or, take, drop, set, refl, sym, ◌∙◌, ap, ap₂, subst}
use Rattle.std.proofs.Common.{⊎_elim, arith, Contains, All, replicate, length-append, get_or-append-add, append_assoc, drop-cons, pow-suc}
use Rattle.std.proofs.Math.Seq.{drop-length, take-set-lt}
use Rattle.std.proofs.lemmas.List.{replicate-append-replicate, take_more_set, take-append-drop}
use Rattle.std.proofs.lemmas.List.Elements.{All-nil, All-cons, All-head, All-tail, All-append, All-contains, All-from_recursion, Contains-append_left}
use Rattle.std.proofs.lemmas.List.Elements.{Contains-append_right, Contains-append_cases}
use Rattle.quilt_types.specs.declared.plane.Block.{Block}
use Rattle.quilt_types.specs.Plane.{quarters_of, IsBlock}
use Rattle.quilt_loc.specs.Codes.{code_from, code_to}
use Rattle.quilt_loc.proofs.Members.{Contains-nil, Contains-here, Contains-cons_cases}
use Rattle.quilt_loc.proofs.Quartered.{halved}
use Rattle.quilt_loc.proofs.Intervals.{HasQuarterCodes, half_codes, square_pos}
use Rattle.quilt_loc.proofs.Nesting.{side_pos}
use Rattle.quilt_blocks.specs.Painting.{colours_of}
use Rattle.quilt_blocks.specs.Walk.{pixel_count}
use Rattle.quilt_blocks.specs.Listing.{Follows, IsUnmerged, IsMaking, IsGrowing, EndsInQuarters}
use Rattle.quilt_blocks.proofs.Chains.{pixels_in, size_of-cons, colours_of-append, member_pos, Follows-append, Follows-front, Follows-back, Follows-member}

-- what stands before the last element
pub before_last : {X : Type 0} (xs ys : List X) (x y : X) → xs ++ x ∷ [] ≡ ys ++ y ∷ [] → xs ≡ ys
before_last [] [] x y e = refl
before_last {X} [] (b ∷ ys) x y e = let l = ap length e in let s = length-append ys (y ∷ []) in absurd (omega arith)
before_last {X} (a ∷ xs) [] x y e = let l = ap length e in let s = length-append xs (x ∷ []) in absurd (omega arith)
before_last (a ∷ xs) (b ∷ ys) x y e =
    let t : xs ++ x ∷ [] ≡ ys ++ y ∷ [] = cc in
    let h : a ≡ b = cc in
    ap₂ ◌∷◌ h (before_last xs ys x y t)

pub IsUnmerged-less : (n : ℕ) (xs ys : List (Block × ℕ)) → ((e : Block × ℕ) → Contains xs e → Contains ys e) → IsUnmerged n ys → IsUnmerged n xs
IsUnmerged-less n xs ys all h = record { four = λ b c hb part. h.four b c hb (λ q m. all (q, c) (part q m)) }

pub Follows-one : (n : ℕ) (e : Block × ℕ) → IsBlock n e.0 → Follows n (code_from e.0) (e ∷ [])
Follows-one n e h = (h, refl, tt)

-- no block yet
pub IsMaking-none : (n : ℕ) → 1 ≤ n → n ≤ 12 → IsMaking n []
IsMaking-none n least most = record {
  least = least;
  most = most;
  colours = All-nil (λ (e : Block × ℕ). e.1 < 65536);
  follows = tt;
  unmerged = record {
    four = λ b c hb part.
        let q : Block = record { x = b.x; y = b.y; side = b.side / 2 } in
        Contains-nil (q, c) (part q (0, omega arith, refl));
  };
}

-- one more block
pub IsGrowing-push : (n : ℕ) (es : List (Block × ℕ)) (e : Block × ℕ) → IsMaking n es → IsBlock n e.0 → code_from e.0 ≡ pixel_count es → e.1 < 65536
    → IsGrowing n (es ++ e ∷ [])
IsGrowing-push n es e m h at small =
    let z : code_from e.0 ≡ 0 + pixel_count es = omega arith in
    record {
      colours = All-append (λ (d : Block × ℕ). d.1 < 65536) es (e ∷ []) m.colours (All-from_recursion (λ (d : Block × ℕ). d.1 < 65536) (e ∷ []) (small, tt));
      follows = Follows-append n 0 es (e ∷ []) m.follows (subst (λ (a : ℕ). Follows n a (e ∷ [])) z (Follows-one n e h));
      front = es;
      last = e;
      split = refl;
      unmerged = m.unmerged;
    }

-- the four quarters with a colour
abbrev pub siblings : Block × ℕ → List (Block × ℕ)
siblings w = map (λ q. (q, w.1)) (quarters_of w.0)

four_equal : (a c : ℕ) (rest : List ℕ)
    → replicate a c ++ (replicate a c ++ (replicate a c ++ (replicate a c ++ rest))) ≡ replicate (a + (a + (a + a))) c ++ rest
four_equal a c rest =
    ap (λ l. replicate a c ++ (replicate a c ++ l))
    (sym (append_assoc (replicate a c) (replicate a c) rest) ∙ ap (λ l. l ++ rest) (replicate-append-replicate a a c))
    ∙ ap (λ l. replicate a c ++ l)
    (sym (append_assoc (replicate a c) (replicate (a + a) c) rest) ∙ ap (λ l. l ++ rest) (replicate-append-replicate a (a + a) c))
    ∙ sym (append_assoc (replicate a c) (replicate (a + (a + a)) c) rest) ∙ ap (λ l. l ++ rest) (replicate-append-replicate a (a + (a + a)) c)

quarter_size : (n : ℕ) (b : Block) → IsBlock n b → 1 < b.side → let h = b.side / 2 in h * h + (h * h + (h * h + h * h)) ≡ b.side * b.side
quarter_size n b hb wide =
    let v = halved n b hb wide in
    let p = pow-suc 2 v.0 in
    let e = v.2 in
    let f = v.3 in
    let twice : b.side ≡ 2 * (b.side / 2) = omega arith in
    sym (ap (λ z. z * z) twice ∙ squares (b.side / 2))
  where
    squares : (h : ℕ) → 2 * h * (2 * h) ≡ h * h + (h * h + (h * h + h * h))
    squares h = omega arith

-- they paint what the whole block paints
pub colours_of-siblings : (n : ℕ) (w : Block × ℕ) (front : List (Block × ℕ)) → IsBlock n w.0 → 1 < w.0.side
    → colours_of (front ++ siblings w) ≡ colours_of (front ++ w ∷ [])
unfolding colours_of
colours_of-siblings n w front hw wide =
    let h = w.0.side / 2 in
    colours_of-append front (siblings w)
    ∙ ap (λ l. colours_of front ++ l) (four_equal (h * h) w.1 [] ∙ ap (λ k. replicate k w.1 ++ []) (quarter_size n w.0 hw wide))
    ∙ sym (colours_of-append front (w ∷ []))

pub All-front : {X : Type 0} (P : X → Type 0) (xs ys : List X) → All P (xs ++ ys) → All P xs
All-front P [] ys h = All-nil P
All-front P (x ∷ xs) ys h = All-cons P x xs (All-head P x (xs ++ ys) h) (All-front P xs ys (All-tail P x (xs ++ ys) h))

-- four siblings at the end become one block
pub IsGrowing-merge : (n : ℕ) (es : List (Block × ℕ)) (w : Block × ℕ) → IsGrowing n es → (q : EndsInQuarters n es w) → IsGrowing n (q.front ++ w ∷ [])
IsGrowing-merge n es w g q =
    let h = w.0.side / 2 in
    let at : ℕ → ℕ → Block × ℕ = λ x y. let r : Block = record { x = x; y = y; side = h } in (r, w.1) in
    let a = at w.0.x w.0.y in
    let b = at (w.0.x + h) w.0.y in
    let c = at w.0.x (w.0.y + h) in
    let d = at (w.0.x + h) (w.0.y + h) in
    let f = q.front in
    let follows : Follows n 0 (f ++ siblings w) = subst (Follows n 0) q.split g.follows in
    let back = Follows-back n 0 f (siblings w) follows in
    let all : All (λ (e : Block × ℕ). e.1 < 65536) (f ++ siblings w) = subst (All (λ (e : Block × ℕ). e.1 < 65536)) q.split g.colours in
    let small =
    All-contains (λ (e : Block × ℕ). e.1 < 65536) (f ++ siblings w) a all (Contains-append_right f (siblings w) a (Contains-here a (b ∷ c ∷ d ∷ []))) in
    let cut : g.front ++ g.last ∷ [] ≡ (f ++ a ∷ b ∷ c ∷ []) ++ d ∷ [] = sym g.split ∙ q.split ∙ sym (append_assoc f (a ∷ b ∷ c ∷ []) (d ∷ [])) in
    let front : g.front ≡ f ++ a ∷ b ∷ c ∷ [] = before_last g.front (f ++ a ∷ b ∷ c ∷ []) g.last d cut in
    record {
      colours = All-append (λ (e : Block × ℕ). e.1 < 65536) f (w ∷ []) (All-front (λ (e : Block × ℕ). e.1 < 65536) f (siblings w) all)
          (All-from_recursion (λ (e : Block × ℕ). e.1 < 65536) (w ∷ []) (small, tt));
      follows = Follows-append n 0 f (w ∷ []) (Follows-front n 0 f (siblings w) follows) (q.block, back.1, tt);
      front = f;
      last = w;
      split = refl;
      unmerged = IsUnmerged-less n f g.front
          (λ e m. subst (λ (l : List (Block × ℕ)). Contains l e) (sym front) (Contains-append_left f (a ∷ b ∷ c ∷ []) e m)) g.unmerged;
    }

-- the last member is the one that ends where all end
last_is : (n at : ℕ) (es : List (Block × ℕ)) (e : Block × ℕ) → Follows n at es → Contains es e → code_to e.0 ≡ at + pixel_count es
    → (ys : List (Block × ℕ)) × (es ≡ ys ++ e ∷ [])
last_is n at [] e h c end = absurd (Contains-nil e c)
last_is n at (x ∷ []) e h c end =
    ⊎_elim (λ is. ([], ap (λ (z : Block × ℕ). z ∷ []) is)) (λ d. absurd (Contains-nil e d)) (Contains-cons_cases x [] e c)
last_is n at (x ∷ y ∷ ys) e h c end =
    let s = size_of-cons x (y ∷ ys) in
    let t = size_of-cons y ys in
    let f = h.1 in
    let py = member_pos n y.0 h.2.0 in
    ⊎_elim
    (λ is. let e' : code_to x.0 ≡ at + pixel_count (x ∷ y ∷ ys) = ap (λ (z : Block × ℕ). code_to z.0) is ∙ end in absurd (omega arith))
    (λ d.
    let r = last_is n (at + pixels_in x) (y ∷ ys) e h.2 d (omega arith) in
    let e' = r.1 in
    (x ∷ r.0, ap (λ l. x ∷ l) e')) (Contains-cons_cases x (y ∷ ys) e c)

four_more : {X : Type 0} (xs : List X) (a b c d : X) → (((xs ++ a ∷ []) ++ b ∷ []) ++ c ∷ []) ++ d ∷ [] ≡ xs ++ a ∷ b ∷ c ∷ d ∷ []
four_more xs a b c d =
    append_assoc ((xs ++ a ∷ []) ++ b ∷ []) (c ∷ []) (d ∷ []) ∙ append_assoc (xs ++ a ∷ []) (b ∷ []) (c ∷ d ∷ []) ∙ append_assoc xs (a ∷ []) (b ∷ c ∷ d ∷ [])

not_last : (xs : List (Block × ℕ)) (e f : Block × ℕ) → Contains (xs ++ e ∷ []) f → (code_from f.0 ≡ code_from e.0 → ⊥) → Contains xs f
not_last xs e f c apart =
    ⊎_elim (λ d. d)
    (λ d. ⊎_elim (λ is. absurd (apart (sym (ap (λ (z : Block × ℕ). code_from z.0) is)))) (λ none. absurd (Contains-nil f none)) (Contains-cons_cases e [] f d))
    (Contains-append_cases xs (e ∷ []) f c)

-- the member that ends where the last one begins stands before it
peel : (n : ℕ) (xs : List (Block × ℕ)) (e f : Block × ℕ) → Follows n 0 (xs ++ e ∷ []) → Contains xs f → code_to f.0 ≡ code_from e.0
    → (ys : List (Block × ℕ)) × (xs ≡ ys ++ f ∷ [])
peel n xs e f h c end =
    let back = Follows-back n 0 xs (e ∷ []) h in
    let from = back.1 in
    last_is n 0 xs f (Follows-front n 0 xs (e ∷ []) h) c (omega arith)

module _ (n : ℕ) (le : n ≤ 12) (es : List (Block × ℕ)) (g : IsGrowing n es) (last_four : (w : Block × ℕ) → EndsInQuarters n es w → ⊥) where
  follows : Follows n 0 (g.front ++ g.last ∷ [])
  follows = subst (Follows n 0) g.split g.follows

  module _ (b : Block) (c : ℕ) (hb : IsBlock n b) (part : (q : Block) → Contains (quarters_of b) q → Contains (g.front ++ g.last ∷ []) (q, c)) where
    abbrev at : ℕ → ℕ → Block × ℕ
    at x y = let r : Block = record { x = x; y = y; side = b.side / 2 } in (r, c)

    first : Contains (g.front ++ g.last ∷ []) (at b.x b.y)
    first = part (at b.x b.y).0 (0, omega arith, refl)

    wide : 1 < b.side
    wide =
        let m = Follows-member n 0 (g.front ++ g.last ∷ []) (at b.x b.y) follows first in
        let p = side_pos n (at b.x b.y).0 m.block in
        omega arith

    codes : HasQuarterCodes b (b.side / 2)
    codes = half_codes n b hb le wide

    abbrev right : Block × ℕ
    right = at (b.x + b.side / 2) b.y

    abbrev below : Block × ℕ
    below = at b.x (b.y + b.side / 2)

    abbrev across : Block × ℕ
    across = at (b.x + b.side / 2) (b.y + b.side / 2)

    positive : 0 < b.side / 2 * (b.side / 2)
    positive = square_pos (b.side / 2) (let w = wide in omega arith)

    -- not all four stand before the last
    not_in_front : Contains g.front across → ⊥
    not_in_front d =
        let m = Follows-member n 0 g.front across (Follows-front n 0 g.front (g.last ∷ []) follows) d in
        let t = m.to in
        let back = Follows-back n 0 g.front (g.last ∷ []) follows in
        let from = back.1 in
        let p = positive in
        let c1 = codes.right in
        let c2 = codes.below in
        let c3 = codes.across in
        let f0 = not_last g.front g.last (at b.x b.y) first (λ e. omega arith) in
        let f1 = not_last g.front g.last right (part right.0 (1, omega arith, refl)) (λ e. omega arith) in
        let f2 = not_last g.front g.last below (part below.0 (2, omega arith, refl)) (λ e. omega arith) in
        g.unmerged.four b c hb (λ q m'. All-contains (λ (r : Block). Contains g.front (r, c)) (quarters_of b) q
        (All-from_recursion (λ (r : Block). Contains g.front (r, c)) (quarters_of b) (f0, (f1, (f2, (d, tt))))) m')

    at_end : across ≡ g.last → ⊥
    at_end is =
        let p = positive in
        let c1 = codes.right in
        let c2 = codes.below in
        let c3 = codes.across in
        let same : code_from across.0 ≡ code_from g.last.0 = ap (λ (z : Block × ℕ). code_from z.0) is in
        let m2 = not_last g.front g.last below (part below.0 (2, omega arith, refl)) (λ e. omega arith) in
        let p2 = peel n g.front g.last below follows m2 (omega arith) in
        let e2 = p2.1 in
        let h2 = subst (Follows n 0) e2 (Follows-front n 0 g.front (g.last ∷ []) follows) in
        let m1 =
        not_last p2.0 below right
        (subst (λ (l : List (Block × ℕ)). Contains l right) e2
        (not_last g.front g.last right (part right.0 (1, omega arith, refl)) (λ e. omega arith))) (λ e. omega arith) in
        let p1 = peel n p2.0 below right h2 m1 (omega arith) in
        let e1 = p1.1 in
        let h1 = subst (Follows n 0) e1 (Follows-front n 0 p2.0 (below ∷ []) h2) in
        let m0 =
        not_last p1.0 right (at b.x b.y)
        (subst (λ (l : List (Block × ℕ)). Contains l (at b.x b.y)) e1
        (not_last p2.0 below (at b.x b.y)
        (subst (λ (l : List (Block × ℕ)). Contains l (at b.x b.y)) e2 (not_last g.front g.last (at b.x b.y) first (λ e. omega arith)))
        (λ e. omega arith))) (λ e. omega arith) in
        let p0 = peel n p1.0 right (at b.x b.y) h1 m0 (omega arith) in
        let e0 = p0.1 in
        last_four (b, c) (record {
          block = hb;
          wide = wide;
          front = p0.0;
          split = g.split ∙ ap₂ (λ u v. u ++ v ∷ []) (e2 ∙ ap (λ l. l ++ below ∷ []) (e1 ∙ ap (λ l. l ++ right ∷ []) e0)) (sym is)
              ∙ four_more p0.0 (at b.x b.y) right below across;
        })

    none : ⊥
    none =
        ⊎_elim not_in_front
        (λ d. ⊎_elim (λ is. at_end (sym is)) (λ n'. absurd (Contains-nil across n')) (Contains-cons_cases g.last [] across d))
        (Contains-append_cases g.front (g.last ∷ []) across (part across.0 (3, omega arith, refl)))

  -- where the last four are no siblings of one colour, no four are
  pub IsUnmerged-end : IsUnmerged n es
  IsUnmerged-end = record { four = λ b c hb part. none b c hb (λ q m. subst (λ (l : List (Block × ℕ)). Contains l (q, c)) g.split (part q m)) }

-- the last four elements
pub last_four_are : {X : Type 0} (xs : List X) (d : X) (k : ℕ) → k + 4 ≡ length xs
    → xs ≡ take k xs ++ get_or xs k d ∷ get_or xs (k + 1) d ∷ get_or xs (k + 2) d ∷ get_or xs (k + 3) d ∷ []
last_four_are xs d k e =
    let l0 : k < length xs = omega arith in
    let l1 : k + 1 < length xs = omega arith in
    let l2 : k + 2 < length xs = omega arith in
    let l3 : k + 3 < length xs = omega arith in
    let s0 : suc k ≡ k + 1 = omega arith in
    let s1 : suc (k + 1) ≡ k + 2 = omega arith in
    let s2 : suc (k + 2) ≡ k + 3 = omega arith in
    let s3 : suc (k + 3) ≡ length xs = omega arith in
    sym (take-append-drop k xs) ∙ ap (λ l. take k xs ++ l)
    (drop-cons xs k d l0 ∙ ap (λ l. get_or xs k d ∷ l) (ap (λ i. drop i xs) s0
    ∙ drop-cons xs (k + 1) d l1 ∙ ap (λ l. get_or xs (k + 1) d ∷ l) (ap (λ i. drop i xs) s1
    ∙ drop-cons xs (k + 2) d l2 ∙ ap (λ l. get_or xs (k + 2) d ∷ l) (ap (λ i. drop i xs) s2
    ∙ drop-cons xs (k + 3) d l3 ∙ ap (λ l. get_or xs (k + 3) d ∷ l) (ap (λ i. drop i xs) s3 ∙ drop-length xs)))))

pub four_same : {X : Type 0} (a b c d p q r s : X) → a ≡ p → b ≡ q → c ≡ r → d ≡ s → a ∷ b ∷ c ∷ d ∷ [] ≡ p ∷ q ∷ r ∷ s ∷ []
four_same a b c d p q r s e f g h = cc

-- what stands at the last four places, from k on, where they are siblings of one colour
pub at_the_end : (n : ℕ) (es : List (Block × ℕ)) (w d : Block × ℕ) (k : ℕ) → k + 4 ≡ length es → EndsInQuarters n es w → (j : ℕ) → j < 4
    → get_or es (k + j) d ≡ get_or (siblings w) j d
at_the_end n es w d k at q j lt =
    let long : length es ≡ length q.front + 4 = ap length q.split ∙ length-append q.front (siblings w) in
    ap (λ i. get_or es i d) (let e : k + j ≡ length q.front + j = omega arith in e)
    ∙ ap (λ l. get_or l (length q.front + j) d) q.split ∙ get_or-append-add q.front (siblings w) j d

-- the last four made one
pub merged_is : {X : Type 0} (xs : List X) (k : ℕ) (w : X) → k + 4 ≡ length xs → set (take (k + 1) xs) k w ≡ take k xs ++ w ∷ []
merged_is xs k w e = sym (take-set-lt (k + 1) xs k w (let l : k < k + 1 = omega arith in l)) ∙ take_more_set xs k w (omega arith)
