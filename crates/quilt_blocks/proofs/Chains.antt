-- Blocks that follow one another by their codes: how many pixels they have, which codes, and that one of them holds each pixel.
use Rattle.std.proofs.Common.{◌≡◌, ℕ, zero, suc, ◌+◌, ◌-◌, ◌*◌, ◌<◌, ◌≤◌, Bool, true, false, cond, List, [], ◌∷◌, ◌++◌, length, get_or, take, refl, sym, ◌∙◌}
use Rattle.std.proofs.Common.{ap, ap₂, subst, ⊎_elim, arith, Contains, count_by, replicate, get_or-append-add, length-append, append_assoc}
use Rattle.std.proofs.lemmas.Bool.{cases_lt, false_from_ne_true}
use Rattle.std.proofs.lemmas.List.{length-replicate, get_or-replicate, get_or_append_left}
use Rattle.std.proofs.lemmas.List.Sums.{sum_by-cons, sum_by-append, sum_by_more}
use Rattle.quilt_types.specs.declared.plane.Pixel.{Pixel}
use Rattle.quilt_types.specs.declared.plane.Block.{Block}
use Rattle.quilt_types.specs.Plane.{side, in_block, IsBlock}
use Rattle.quilt_loc.specs.Codes.{code_at, code_from, code_to, Rises}
use Rattle.quilt_loc.proofs.Members.{Contains-nil, Contains-here, Contains-there, Contains-cons_cases}
use Rattle.quilt_loc.proofs.Blocks.{Holds-from, in_block-true, side_most}
use Rattle.quilt_loc.proofs.Nesting.{side_pos}
use Rattle.quilt_loc.proofs.Intervals.{code_held, held_code, square_pos}
use Rattle.quilt_loc.proofs.Rising.{nat_less}
use Rattle.quilt_blocks.specs.Cutting.{leaf_cmp}
use Rattle.quilt_blocks.specs.Painting.{colours_of}
use Rattle.quilt_blocks.specs.Walk.{pixel_count}
use Rattle.quilt_blocks.specs.Listing.{Follows}

-- how many pixels the block has
abbrev pub pixels_in : Block × ℕ → ℕ
pixels_in e = e.0.side * e.0.side

pub size_of-cons : (e : Block × ℕ) (es : List (Block × ℕ)) → pixel_count (e ∷ es) ≡ pixels_in e + pixel_count es
unfolding pixel_count
size_of-cons e es = sum_by-cons pixels_in e es

pub size_of-append : (xs ys : List (Block × ℕ)) → pixel_count (xs ++ ys) ≡ pixel_count xs + pixel_count ys
unfolding pixel_count
size_of-append xs ys = sum_by-append pixels_in xs ys

pub size_of-take_more : (es : List (Block × ℕ)) (i : ℕ) (d : Block × ℕ) → i < length es
    → pixel_count (take (i + 1) es) ≡ pixel_count (take i es) + pixels_in (get_or es i d)
unfolding pixel_count
size_of-take_more es i d lt = sum_by_more pixels_in es i d lt

pub size_of-nil : pixel_count [] ≡ 0
unfolding pixel_count
size_of-nil = refl

pub colours_of-cons : (e : Block × ℕ) (es : List (Block × ℕ)) → colours_of (e ∷ es) ≡ replicate (pixels_in e) e.1 ++ colours_of es
unfolding colours_of
colours_of-cons e es = refl

pub length-colours_of : (es : List (Block × ℕ)) → length (colours_of es) ≡ pixel_count es
unfolding colours_of pixel_count
length-colours_of [] = refl
length-colours_of (e ∷ es) =
    length-append (replicate (pixels_in e) e.1) (colours_of es)
    ∙ ap₂ (λ a b. a + b) (length-replicate (pixels_in e) e.1) (length-colours_of es) ∙ sym (sum_by-cons pixels_in e es)

pub colours_of-append : (xs ys : List (Block × ℕ)) → colours_of (xs ++ ys) ≡ colours_of xs ++ colours_of ys
unfolding colours_of
colours_of-append [] ys = refl
colours_of-append (x ∷ xs) ys =
    ap (λ l. replicate (pixels_in x) x.1 ++ l) (colours_of-append xs ys) ∙ sym (append_assoc (replicate (pixels_in x) x.1) (colours_of xs) (colours_of ys))

module _ (n : ℕ) where
  pub Follows-append : (at : ℕ) (xs ys : List (Block × ℕ)) → Follows n at xs → Follows n (at + pixel_count xs) ys → Follows n at (xs ++ ys)
  Follows-append at [] ys h k =
      let z = size_of-nil in
      let e : at + pixel_count [] ≡ at = omega arith in
      subst (λ (a : ℕ). Follows n a ys) e k
  Follows-append at (x ∷ xs) ys h k =
      let c = size_of-cons x xs in
      let e : at + pixel_count (x ∷ xs) ≡ at + pixels_in x + pixel_count xs = omega arith in
      (h.0, h.1, Follows-append (at + pixels_in x) xs ys h.2 (subst (λ (a : ℕ). Follows n a ys) e k))

  pub Follows-front : (at : ℕ) (xs ys : List (Block × ℕ)) → Follows n at (xs ++ ys) → Follows n at xs
  Follows-front at [] ys h = tt
  Follows-front at (x ∷ xs) ys h = (h.0, h.1, Follows-front (at + pixels_in x) xs ys h.2)

  pub Follows-back : (at : ℕ) (xs ys : List (Block × ℕ)) → Follows n at (xs ++ ys) → Follows n (at + pixel_count xs) ys
  Follows-back at [] ys h =
      let z = size_of-nil in
      let e : at ≡ at + pixel_count [] = omega arith in
      subst (λ (a : ℕ). Follows n a ys) e h
  Follows-back at (x ∷ xs) ys h =
      let c = size_of-cons x xs in
      let e : at + pixels_in x + pixel_count xs ≡ at + pixel_count (x ∷ xs) = omega arith in
      subst (λ (a : ℕ). Follows n a ys) e (Follows-back (at + pixels_in x) xs ys h.2)

  -- a member lies between the first and the last code
  pub record LiesIn (first end : ℕ) (b : Block) : Type 0 where
    pub block : IsBlock n b
    pub from : first ≤ code_from b
    pub to : code_to b ≤ end

  LiesIn-here : (e : Block × ℕ) (at to : ℕ) (d : Block × ℕ) → e ≡ d → IsBlock n e.0 → at ≤ code_from e.0 → code_to e.0 ≤ to → LiesIn at to d.0
  LiesIn-here e at to d is b low high = subst (λ (z : Block × ℕ). LiesIn at to z.0) is (record { block = b; from = low; to = high })

  pub Follows-member : (at : ℕ) (es : List (Block × ℕ)) (e : Block × ℕ) → Follows n at es → Contains es e → LiesIn at (at + pixel_count es) e.0
  Follows-member at [] e h c = absurd (Contains-nil e c)
  Follows-member at (x ∷ xs) e h c =
      let s = size_of-cons x xs in
      let f = h.1 in
      ⊎_elim (λ is. LiesIn-here x at (at + pixel_count (x ∷ xs)) e is h.0 (omega arith) (omega arith))
      (λ d.
      let r = Follows-member (at + pixels_in x) xs e h.2 d in
      let l = r.from in
      let t = r.to in
      record { block = r.block; from = omega arith; to = omega arith }) (Contains-cons_cases x xs e c)

  pub member_pos : (b : Block) → IsBlock n b → 0 < b.side * b.side
  member_pos b h = square_pos b.side (side_pos n b h)

  pub Follows-rises : (at : ℕ) (es : List (Block × ℕ)) → Follows n at es → Rises leaf_cmp es
  Follows-rises at [] h = tt
  Follows-rises at (x ∷ xs) h =
      let p = member_pos x.0 h.0 in
      let f = h.1 in (
        λ y c. let r = Follows-member (at + pixels_in x) xs y h.2 c in let l = r.from in nat_less (code_from x.0) (code_from y.0) (omega arith),
        Follows-rises (at + pixels_in x) xs h.2,
      )

  -- the member at a place ends where the next one begins
  pub Follows-next : (at : ℕ) (es : List (Block × ℕ)) (i : ℕ) (d : Block × ℕ) → Follows n at es → suc i < length es
      → code_to (get_or es i d).0 ≡ code_from (get_or es (suc i) d).0
  Follows-next at [] i d h lt = absurd (omega arith)
  Follows-next at (x ∷ []) i d h lt = absurd (omega arith)
  Follows-next at (x ∷ y ∷ ys) zero d h lt = let a = h.1 in let b = h.2.1 in omega arith
  Follows-next at (x ∷ y ∷ ys) (suc i) d h lt = Follows-next (at + pixels_in x) (y ∷ ys) i d h.2 (omega arith)

  -- the last one ends where all end
  pub Follows-last : (at : ℕ) (es : List (Block × ℕ)) (i : ℕ) (d : Block × ℕ) → Follows n at es → i + 1 ≡ length es
      → code_to (get_or es i d).0 ≡ at + pixel_count es
  Follows-last at [] i d h e = absurd (omega arith)
  Follows-last at (x ∷ []) zero d h e = let s = size_of-cons x [] in let z = size_of-nil in let a = h.1 in omega arith
  Follows-last at (x ∷ []) (suc i) d h e = absurd (omega arith)
  Follows-last at (x ∷ y ∷ ys) zero d h e = absurd (omega arith)
  Follows-last at (x ∷ y ∷ ys) (suc i) d h e =
      let s = size_of-cons x (y ∷ ys) in
      let r = Follows-last (at + pixels_in x) (y ∷ ys) i d h.2 (omega arith) in
      omega arith

  -- the member at a place begins after those before it
  pub Follows-place : (at : ℕ) (es : List (Block × ℕ)) (i : ℕ) (d : Block × ℕ) → Follows n at es → i < length es
      → code_from (get_or es i d).0 ≡ at + pixel_count (take i es)
  Follows-place at [] i d h lt = absurd (omega arith)
  Follows-place at (x ∷ xs) zero d h lt = let a = h.1 in let z = size_of-nil in omega arith
  Follows-place at (x ∷ xs) (suc i) d h lt =
      let s = size_of-cons x (take i xs) in
      let r = Follows-place (at + pixels_in x) xs i d h.2 (omega arith) in
      omega arith

  -- the member that has a code
  pub member_with : (at : ℕ) (es : List (Block × ℕ)) (k : ℕ) → Follows n at es → at ≤ k → k < at + pixel_count es
      → (e : Block × ℕ) × Contains es e × (code_from e.0 ≤ k) × (k < code_to e.0)
  member_with at [] k h low high = let z = size_of-nil in absurd (omega arith)
  member_with at (x ∷ xs) k h low high =
      let s = size_of-cons x xs in
      let f = h.1 in
      ⊎_elim (λ lt. (x, Contains-here x xs, omega arith, omega arith))
      (λ ge.
      let r = member_with (at + pixels_in x) xs k h.2 ge (omega arith) in
      (r.0, Contains-there x xs r.0 r.1, r.2, r.3)) (cases_lt k (at + pixels_in x))

  -- the colour at each of a member's codes is its own
  pub colour_in : (at : ℕ) (es : List (Block × ℕ)) (e : Block × ℕ) (k : ℕ) → Follows n at es → Contains es e → code_from e.0 ≤ k → k < code_to e.0
      → get_or (colours_of es) (k - at) 0 ≡ e.1
  colour_in at [] e k h c low high = absurd (Contains-nil e c)
  colour_in at (x ∷ xs) e k h c low high =
      let f = h.1 in
      let first = replicate (pixels_in x) x.1 in
      let long : length first ≡ pixels_in x = length-replicate (pixels_in x) x.1 in
      ⊎_elim
      (λ is.
      let low' : code_from x.0 ≤ k = subst (λ (z : Block × ℕ). code_from z.0 ≤ k) (sym is) low in
      let high' : k < code_to x.0 = subst (λ (z : Block × ℕ). k < code_to z.0) (sym is) high in
      ap (λ l. get_or l (k - at) 0) (colours_of-cons x xs)
      ∙ get_or_append_left first (colours_of xs) 0 (k - at) (omega arith)
      ∙ get_or-replicate (pixels_in x) (k - at) x.1 0 (omega arith)
      ∙ ap (λ (z : Block × ℕ). z.1) is)
      (λ d.
      let r = Follows-member (at + pixels_in x) xs e h.2 d in
      let l = r.from in
      let split : k - at ≡ length first + (k - (at + pixels_in x)) = omega arith in
      ap (λ l. get_or l (k - at) 0) (colours_of-cons x xs)
      ∙ ap (λ i. get_or (first ++ colours_of xs) i 0) split
      ∙ get_or-append-add first (colours_of xs) (k - (at + pixels_in x)) 0
      ∙ colour_in (at + pixels_in x) xs e k h.2 d low high) (Contains-cons_cases x xs e c)

  -- how many members hold a pixel
  module _ (le : n ≤ 12) (p : Pixel) (hx : p.x < side n) (hy : p.y < side n) where
    holds : (b : Block) → IsBlock n b → code_from b ≤ code_at p → code_at p < code_to b → in_block b p ≡ true
    holds b h low high =
        let m = side_most n le in
        let ix = h.in_x in
        let iy = h.in_y in
        in_block-true b p (held_code n b p h le (omega arith) (omega arith) (omega arith) (omega arith) low high)

    misses : (b : Block) → IsBlock n b → (code_from b ≤ code_at p → code_at p < code_to b → ⊥) → in_block b p ≡ false
    misses b h apart = false_from_ne_true (in_block b p) (λ t. let w = code_held n b p h le (Holds-from b p t) in apart w.0 w.1)

    count_more : (b : Bool) (x : Block × ℕ) (xs : List (Block × ℕ)) → in_block x.0 p ≡ b
        → count_by (λ e. in_block e.0 p) (x ∷ xs) ≡ cond b 1 0 + count_by (λ e. in_block e.0 p) xs
    count_more b x xs e =
        sum_by-cons (λ (z : Block × ℕ). cond (in_block z.0 p) 1 0) x xs ∙ ap (λ t. cond {A = ℕ} t 1 0 + count_by (λ (z : Block × ℕ). in_block z.0 p) xs) e

    count_behind : (at : ℕ) (es : List (Block × ℕ)) → Follows n at es → code_at p < at → count_by (λ e. in_block e.0 p) es ≡ 0
    count_behind at [] h lt = refl
    count_behind at (x ∷ xs) h lt =
        let f = h.1 in
        count_more false x xs (misses x.0 h.0 (λ low high. omega arith)) ∙ (let r = count_behind (at + pixels_in x) xs h.2 (omega arith) in omega arith)

    pub one_holds : (at : ℕ) (es : List (Block × ℕ)) → Follows n at es → at ≤ code_at p → code_at p < at + pixel_count es → count_by (λ e. in_block e.0 p) es ≡ 1
    one_holds at [] h low high = let z = size_of-nil in absurd (omega arith)
    one_holds at (x ∷ xs) h low high =
        let s = size_of-cons x xs in
        let f = h.1 in
        ⊎_elim (λ lt. count_more true x xs (holds x.0 h.0 (omega arith) (omega arith)) ∙ (let r = count_behind (at + pixels_in x) xs h.2 lt in omega arith))
        (λ ge. count_more false x xs (misses x.0 h.0 (λ a b. omega arith)) ∙ (let r = one_holds (at + pixels_in x) xs h.2 ge (omega arith) in omega arith))
        (cases_lt (code_at p) (at + pixels_in x))
