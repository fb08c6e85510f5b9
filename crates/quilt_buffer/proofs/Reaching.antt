-- Pixels, squares and blocks within a distance of each other, and lists of which one passes a test.
use Rattle.std.proofs.Common.{◌≡◌, ℕ, ◌+◌, ◌<◌, ◌≤◌, Bool, true, false, ◌&&◌, ◌⊎◌, ⊎_elim, nat_le, nat_lt, List, [], ◌∷◌, length, filter, cond}
use Rattle.std.proofs.Common.{sym, ◌∙◌, ap, arith, Contains, le-leb, lt-ltb, leb-true, ltb-true}
use Rattle.std.specs.List.{list_any}
use Rattle.std.specs.Cmp.{both_ways}
use Rattle.std.proofs.lemmas.Bool.{and_parts, and_from, cases_lt, true≢false, false_from_ne_true, cond-true, cond-false}
use Rattle.quilt_types.specs.declared.plane.Pixel.{Pixel}
use Rattle.quilt_types.specs.declared.plane.Block.{Block}
use Rattle.quilt_types.specs.Plane.{Holds}
use Rattle.quilt_loc.proofs.Members.{Contains-here, Contains-filter, Contains-filter_from}
use Rattle.quilt_buffer.specs.Reach.{reaches, reaches_some, reaches_all, within_reach}
use Rattle.quilt_types.proofs.Lists.{any_member, any_from}

some_member : {X : Type 0} (xs : List X) → 0 < length xs → (x : X) × Contains xs x
some_member [] lt = absurd (omega arith)
some_member (x ∷ xs) lt = (x, Contains-here x xs)

-- the four tests in inequalities
pub record InReach (r : ℕ) (p : Pixel) (b : Block) : Type 0 where
  pub left : b.x ≤ p.x + r
  pub right : p.x < b.x + b.side + r
  pub top : b.y ≤ p.y + r
  pub bottom : p.y < b.y + b.side + r

four_parts : (a b c d : Bool) → a && b && c && d ≡ true → (a ≡ true) × (b ≡ true) × (c ≡ true) × (d ≡ true)
four_parts a b c d e =
    let abc = and_parts (a && b && c) d e in
    let ab = and_parts (a && b) c abc.0 in
    let one = and_parts a b ab.0 in
    (one.0, one.1, ab.1, abc.1)

four_from : (a b c d : Bool) → a ≡ true → b ≡ true → c ≡ true → d ≡ true → a && b && c && d ≡ true
four_from a b c d ea eb ec ed = and_from (a && b && c) d (and_from (a && b) c (and_from a b ea eb) ec) ed

pub InReach-from : (r : ℕ) (p : Pixel) (b : Block) → reaches r p b ≡ true → InReach r p b
InReach-from r p b e =
    let f = four_parts (nat_le b.x (p.x + r)) (nat_lt p.x (b.x + b.side + r)) (nat_le b.y (p.y + r)) (nat_lt p.y (b.y + b.side + r)) e in
    record { left = leb-true _ _ f.0; right = ltb-true _ _ f.1; top = leb-true _ _ f.2; bottom = ltb-true _ _ f.3 }

pub reaches-true : (r : ℕ) (p : Pixel) (b : Block) → InReach r p b → reaches r p b ≡ true
reaches-true r p b h = four_from _ _ _ _ (le-leb _ _ h.left) (lt-ltb _ _ h.right) (le-leb _ _ h.top) (lt-ltb _ _ h.bottom)

-- what reaches a pixel of the square reaches some, and what reaches all reaches it
reaches_some-from : (r : ℕ) (square b : Block) (p : Pixel) → Holds square p → reaches r p b ≡ true → reaches_some r square b ≡ true
reaches_some-from r square b p h e =
    let i = InReach-from r p b e in
    let il = i.left in let ir = i.right in let it = i.top in let ib = i.bottom in
    let l = h.left in let w = h.right in let t = h.top in let d = h.bottom in
    let x1 : b.x < square.x + square.side + r = omega arith in
    let x2 : square.x < b.x + b.side + r = omega arith in
    let y1 : b.y < square.y + square.side + r = omega arith in
    let y2 : square.y < b.y + b.side + r = omega arith in
    four_from _ _ _ _ (lt-ltb _ _ x1) (lt-ltb _ _ x2) (lt-ltb _ _ y1) (lt-ltb _ _ y2)

reaches_all-at : (r : ℕ) (square b : Block) (p : Pixel) → Holds square p → reaches_all r square b ≡ true → reaches r p b ≡ true
reaches_all-at r square b p h e =
    let f = four_parts (nat_le b.x (square.x + r)) (nat_le (square.x + square.side) (b.x + b.side + r)) (nat_le b.y (square.y + r))
    (nat_le (square.y + square.side) (b.y + b.side + r)) e in
    let x1 = leb-true b.x (square.x + r) f.0 in
    let x2 = leb-true (square.x + square.side) (b.x + b.side + r) f.1 in
    let y1 = leb-true b.y (square.y + r) f.2 in
    let y2 = leb-true (square.y + square.side) (b.y + b.side + r) f.3 in
    let l = h.left in let w = h.right in let t = h.top in let d = h.bottom in
    reaches-true r p b (record { left = omega arith; right = omega arith; top = omega arith; bottom = omega arith })

-- at one pixel some are all
reaches_all-one : (r : ℕ) (square b : Block) → square.side ≡ 1 → reaches_some r square b ≡ true → reaches_all r square b ≡ true
reaches_all-one r square b one e =
    let f = four_parts (nat_lt b.x (square.x + square.side + r)) (nat_lt square.x (b.x + b.side + r)) (nat_lt b.y (square.y + square.side + r))
    (nat_lt square.y (b.y + b.side + r)) e in
    let x1 = ltb-true b.x (square.x + square.side + r) f.0 in
    let x2 = ltb-true square.x (b.x + b.side + r) f.1 in
    let y1 = ltb-true b.y (square.y + square.side + r) f.2 in
    let y2 = ltb-true square.y (b.y + b.side + r) f.3 in
    let u1 : b.x ≤ square.x + r = omega arith in
    let u2 : square.x + square.side ≤ b.x + b.side + r = omega arith in
    let v1 : b.y ≤ square.y + r = omega arith in
    let v2 : square.y + square.side ≤ b.y + b.side + r = omega arith in
    four_from _ _ _ _ (le-leb _ _ u1) (le-leb _ _ u2) (le-leb _ _ v1) (le-leb _ _ v2)

module _ (r : ℕ) (square : Block) (blocks : List Block) where
  -- all pixels of a covered square are near
  pub near_covered : list_any (reaches_all r square) blocks ≡ true → (p : Pixel) → Holds square p → within_reach r blocks p ≡ 1
  near_covered e p h =
      let m = any_member (reaches_all r square) blocks e in
      cond-true (list_any (reaches r p) blocks) 1 0 (any_from (reaches r p) blocks m.0 m.1 (reaches_all-at r square m.0 p h m.2))

  -- the blocks that do not reach the square change nothing in it
  pub near_close : (p : Pixel) → Holds square p → within_reach r (filter (reaches_some r square) blocks) p ≡ within_reach r blocks p
  near_close p h =
      ap (λ t. cond {A = ℕ} t 1 0)
      (both_ways (list_any (reaches r p) (filter (reaches_some r square) blocks)) (list_any (reaches r p) blocks)
      (λ e.
      let m = any_member (reaches r p) (filter (reaches_some r square) blocks) e in
      any_from (reaches r p) blocks m.0 (Contains-filter_from (reaches_some r square) blocks m.0 m.1).0 m.2)
      (λ e.
      let m = any_member (reaches r p) blocks e in
      any_from (reaches r p) (filter (reaches_some r square) blocks) m.0
      (Contains-filter (reaches_some r square) blocks m.0 m.1 (reaches_some-from r square m.0 p h m.2)) m.2))

  -- where no block reaches the square, no pixel of it is near
  pub near_none : length (filter (reaches_some r square) blocks) ≡ 0 → (p : Pixel) → Holds square p → within_reach r blocks p ≡ 0
  near_none none p h =
      sym (near_close p h) ∙ cond-false (list_any (reaches r p) (filter (reaches_some r square) blocks)) 1 0
      (false_from_ne_true (list_any (reaches r p) (filter (reaches_some r square) blocks))
      (λ e.
      let m = any_member (reaches r p) (filter (reaches_some r square) blocks) e in
      let lt = m.1.1 in
      absurd (omega arith)))

  -- a square that is reached and not covered has more than one pixel
  pub wide_if : 0 < square.side → list_any (reaches_all r square) blocks ≡ false → 0 < length (filter (reaches_some r square) blocks) → 1 < square.side
  wide_if pos open' some =
      ⊎_elim (λ lt. lt)
      (λ le.
      let m = some_member (filter (reaches_some r square) blocks) some in
      let f = Contains-filter_from (reaches_some r square) blocks m.0 m.1 in
      let all = any_from (reaches_all r square) blocks m.0 f.0 (reaches_all-one r square m.0 (omega arith) f.1) in
      absurd (true≢false (sym all ∙ open'))) (cases_lt 1 square.side)
