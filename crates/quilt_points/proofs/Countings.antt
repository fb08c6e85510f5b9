-- The blocks of a point layer one behind the other, and how many of them there are of each side.
use Rattle.std.proofs.Common.{◌≡◌, ℕ, zero, suc, ◌+◌, ◌^◌, ◌<◌, ◌≤◌, ◌↔◌, Bool, true, false, cond, List, [], ◌∷◌, length, get_or, set, replicate, count_by}
use Rattle.std.proofs.Common.{eq-eqb, eqb-true, Option, Some, None, refl, sym, ◌∙◌, ap, subst, ⊎_elim, arith, Contains, filter}
use Rattle.std.specs.Prelude.{◌==◌}
use Rattle.std.proofs.lemmas.Bool.{cases_lt, false_from_ne_true}
use Rattle.std.proofs.lemmas.List.{get_or-set_same, get_or-set_other}
use Rattle.std.proofs.lemmas.List.Sums.{length-filter, sum_by-cons}
use Rattle.std.proofs.Math.Nat.{pow-le-pow_right}
use Rattle.quilt_types.specs.declared.plane.Pixel.{Pixel}
use Rattle.quilt_types.specs.declared.plane.Block.{Block}
use Rattle.quilt_types.specs.Plane.{side, corner, whole, block_cmp, Holds}
use Rattle.quilt_types.specs.Layers.{PointMap}
use Rattle.quilt_types.specs.Quadtrees.{holds_few, point_blocks}
use Rattle.quilt_loc.specs.Codes.{code_at, code_from, code_to}
use Rattle.quilt_loc.proofs.Members.{Contains-nil, Contains-here, Contains-there, Contains-cons_cases, Contains-filter, Contains-filter_from}
use Rattle.quilt_loc.proofs.Blocks.{side_most}
use Rattle.quilt_loc.proofs.CodeLaws.{pow_same}
use Rattle.quilt_loc.proofs.InOrder.{Rises-maximal}
use Rattle.quilt_loc.proofs.PlaneOrders.{block_total}
use Rattle.quilt_loc.proofs.Intervals.{origin_code, code_held, held_code}
use Rattle.quilt_loc.proofs.Nesting.{Holds-corner, Within-holds}
use Rattle.quilt_loc.proofs.Quartered.{IsBlock-whole, Within-whole}
use Rattle.quilt_blocks.proofs.Squares.{code_to-whole}
use Rattle.quilt_world.specs.Tale.{Goes}
use Rattle.quilt_spell.specs.Apart.{Apart}
use Rattle.quilt_spell.proofs.Lists.{Apart-filter, Apart-rises, Apart-le, same_length}
use Rattle.quilt_point_laws.proofs.Narrowing.{one_maximal}
use Rattle.quilt_point_laws.proofs.Counts.{few_down}
use Rattle.quilt_points.proofs.Shapes.{block_is}

-- the blocks that begin before a code, at which one of them ends, and how many there are of each side
pub record AreSeen (n capacity : ℕ) (points : PointMap) (code : ℕ) (counts : List ℕ) : Type 0 where
  pub blocks : List Block
  pub once : Apart blocks
  pub are : (e : Block) → Contains blocks e ↔ (Contains (point_blocks n capacity points) e × (code_from e < code))
  pub ended : (e : Block) → Contains blocks e → code_to e ≤ code
  pub counted : (k : ℕ) → k ≤ 12 → get_or counts k 0 ≡ count_by (λ b. b.side == side k) blocks

pub seen_none : (n capacity : ℕ) (points : PointMap) (counts : List ℕ) → ((k : ℕ) → k ≤ 12 → get_or counts k 0 ≡ 0)
    → (s : AreSeen n capacity points 0 counts) × (length s.blocks ≡ 0)
seen_none n capacity points counts zeros = (
  record {
    blocks = [];
    once = tt;
    are = λ e. (λ c. absurd (Contains-nil e c), λ w. let lt = w.1 in absurd (omega arith));
    ended = λ e c. absurd (Contains-nil e c);
    counted = zeros;
  },
  refl,
)

one_more : (bs : List Block) (b : Block) (counts : List ℕ) (j k : ℕ) → j < length counts → b.side ≡ side j
    → get_or counts j 0 ≡ count_by (λ (d : Block). d.side == side j) bs → get_or counts k 0 ≡ count_by (λ (d : Block). d.side == side k) bs
    → get_or (set counts j (get_or counts j 0 + 1)) k 0 ≡ count_by (λ (d : Block). d.side == side k) (b ∷ bs)
one_more bs b counts j k room size here old =
    ⊎_elim (λ lt. other (λ q. omega arith)) (λ ge. ⊎_elim (λ lt. other (λ q. omega arith)) (λ le. same (omega arith)) (cases_lt j k)) (cases_lt k j)
  where
    rest : ℕ → ℕ
    rest m = count_by (λ (d : Block). d.side == side m) bs

    same : k ≡ j → get_or (set counts j (get_or counts j 0 + 1)) k 0 ≡ count_by (λ (d : Block). d.side == side k) (b ∷ bs)
    same q =
        let t : (b.side == side k) ≡ true = eq-eqb b.side (side k) (size ∙ ap side (sym q)) in
        let one : count_by (λ (d : Block). d.side == side k) (b ∷ bs) ≡ 1 + rest k =
        sum_by-cons (λ (d : Block). cond (d.side == side k) 1 0) b bs ∙ ap (λ (z : Bool). cond z 1 0 + rest k) t in
        let value = ap (λ m. get_or (set counts j (get_or counts j 0 + 1)) m 0) q ∙ get_or-set_same counts j (get_or counts j 0 + 1) 0 room in
        let there = old in
        let at : get_or counts j 0 ≡ get_or counts k 0 = ap (λ m. get_or counts m 0) (sym q) in
        omega arith

    other : (k ≡ j → ⊥) → get_or (set counts j (get_or counts j 0 + 1)) k 0 ≡ count_by (λ (d : Block). d.side == side k) (b ∷ bs)
    other q =
        let f : (b.side == side k) ≡ false = false_from_ne_true (b.side == side k) (λ t. q (pow_same k j (sym (eqb-true b.side (side k) t) ∙ size))) in
        let none : count_by (λ (d : Block). d.side == side k) (b ∷ bs) ≡ 0 + rest k =
        sum_by-cons (λ (d : Block). cond (d.side == side k) 1 0) b bs ∙ ap (λ (z : Bool). cond z 1 0 + rest k) f in
        let value = get_or-set_other counts j k (get_or counts j 0 + 1) 0 q in
        omega arith

module _ (n capacity : ℕ) (points : PointMap) (le : n ≤ 12) (code : ℕ) (counts : List ℕ) (h : AreSeen n capacity points code counts) where
  -- the next block
  pub seen_next : (p : Pixel) (b : Block) (j to : ℕ) → to ≡ code_to b → Contains (point_blocks n capacity points) b → Holds b p → code_at p ≡ code
      → j ≤ 12 → b.side ≡ side j → length counts ≡ 13
      → (s : AreSeen n capacity points to (set counts j (get_or counts j 0 + 1))) × (length s.blocks ≡ length h.blocks + 1)
  seen_next p b j to is_to mb on at most size long =
      let gb = block_is n capacity points b mb in
      let hb = gb.block in
      let m = side_most n le in
      let bx = hb.in_x in
      let by = hb.in_y in
      let held = code_held n b p hb le on in
      let from = held.0 in
      let under = held.1 in (
        record {
          blocks = b ∷ h.blocks;
          once = (λ c. let e = h.ended b c in omega arith, h.once);
          are = λ e. (
            λ c. ⊎_elim
                (λ is. let f = ap code_from is in (subst (Contains (point_blocks n capacity points)) is mb, (let lt : code_from e < to = omega arith in lt)))
                (λ d. let w = (h.are e).0 d in let lt = w.1 in (w.0, (let less : code_from e < to = omega arith in less)))
                (Contains-cons_cases b h.blocks e c),
            λ w.
                let lt = w.1 in
                ⊎_elim
                (λ before. Contains-there b h.blocks e ((h.are e).1 (w.0, before)))
                (λ ge.
                let ge' = block_is n capacity points e w.0 in
                let he = ge'.block in
                let ex = he.in_x in
                let ey = he.in_y in
                let inside = held_code n b (corner e) hb le (omega arith) (omega arith) (omega arith) (omega arith) (omega arith) (omega arith) in
                let one = one_maximal n (holds_few capacity points) (few_down n capacity points) b e (corner e) gb ge' inside (Holds-corner n e he) in
                subst (Contains (b ∷ h.blocks)) one (Contains-here b h.blocks))
                (cases_lt (code_from e) code),
          );
          ended = λ e c. ⊎_elim (λ is. let f = ap code_to is in omega arith) (λ d. let to' = h.ended e d in omega arith) (Contains-cons_cases b h.blocks e c);
          counted = λ k small. one_more h.blocks b counts j k (omega arith) size (h.counted j most) (h.counted k small);
        },
        (let one : length (b ∷ h.blocks) ≡ length h.blocks + 1 = omega arith in one),
      )

  -- at the end of the square they are all
  all_seen : code_to (whole n) ≤ code → (e : Block) → Contains h.blocks e ↔ Contains (point_blocks n capacity points) e
  all_seen end e = (
    λ c. ((h.are e).0 c).0,
    λ m.
        let g = block_is n capacity points e m in
        let last =
        (code_held n (whole n) (corner e) (IsBlock-whole n) le
        (Within-holds e (whole n) (corner e) (Within-whole n e g.block) (Holds-corner n e g.block))).1 in
        (h.are e).1 (m, (let lt : code_from e < code = omega arith in lt)),
  )

  blocks_once : Apart (point_blocks n capacity points)
  unfolding point_blocks
  blocks_once = Apart-rises block_cmp block_total (point_blocks n capacity points) (Rises-maximal n (holds_few capacity points))

  pub all_counted : code_to (whole n) ≤ code → (k : ℕ) → k ≤ 12 → get_or counts k 0 ≡ count_by (λ b. b.side == side k) (point_blocks n capacity points)
  all_counted end k small =
      let test : Block → Bool = λ b. b.side == side k in
      let bs = point_blocks n capacity points in
      h.counted k small ∙ sym (length-filter test h.blocks)
      ∙ same_length (filter test h.blocks) (filter test bs) (Apart-filter test h.blocks h.once) (Apart-filter test bs blocks_once)
      (λ e. (
        λ c. let w = Contains-filter_from test h.blocks e c in Contains-filter test bs e ((all_seen end e).0 w.0) w.1,
        λ c. let w = Contains-filter_from test bs e c in Contains-filter test h.blocks e ((all_seen end e).1 w.0) w.1,
      ))
      ∙ length-filter test bs

  pub few_seen : length h.blocks ≤ length (point_blocks n capacity points)
  few_seen = Apart-le h.blocks (point_blocks n capacity points) h.once (λ e c. ((h.are e).0 c).0)

-- ---- counts that are told
pub tells_more : (a b c : ℕ) (first old new : Option ℕ) → a + b ≤ c → Goes (λ x y. y ≤ x + a) first old → Goes (λ x y. y ≤ x + b) old new
    → Goes (λ x y. y ≤ x + c) first new
tells_more a b c (Some x) (Some y) (Some z) le h k = omega arith
tells_more a b c None None None le h k = tt
tells_more a b c (Some x) (Some y) None le h k = absurd k
tells_more a b c (Some x) None o le h k = absurd h
tells_more a b c None (Some y) o le h k = absurd h
tells_more a b c None None (Some z) le h k = absurd k

pub tells_less : (a b : ℕ) (old new : Option ℕ) → a ≤ b → Goes (λ x y. y ≤ x + a) old new → Goes (λ x y. y ≤ x + b) old new
tells_less a b (Some x) (Some y) le h = omega arith
tells_less a b None None le h = tt
tells_less a b (Some x) None le h = absurd h
tells_less a b None (Some y) le h = absurd h

pub tells_none : (o : Option ℕ) → Goes (λ x y. y ≤ x + 0) o o
tells_none None = tt
tells_none (Some x) = omega arith

-- ---- the square
pub whole_end : (n : ℕ) (b : Block) → n ≤ 12 → b ≡ whole n → (code_to b ≡ 4 ^ n) × (code_to b ≤ 16777216)
whole_end n b le is =
    let e = ap code_to is ∙ code_to-whole n in
    let p : 4 ^ n ≤ 4 ^ 12 = pow-le-pow_right {n = 4} (let some : 0 < 4 = omega arith in some) le in
    (e, omega arith)

pub pixel_inside : (n : ℕ) (p : Pixel) → n ≤ 12 → p.x < 4096 → p.y < 4096 → code_at p < 4 ^ n → (p.x < side n) × (p.y < side n)
pixel_inside n p le hx hy lt =
    let z = origin_code in
    let end = code_to-whole n in
    let h = held_code n (whole n) p (IsBlock-whole n) le (omega arith) (omega arith) hx hy (omega arith) (omega arith) in
    let r = h.right in
    let b = h.bottom in
    (omega arith, omega arith)

-- ---- counts that grow
pub zeros_at : (n k : ℕ) → get_or (replicate {A = ℕ} n 0) k 0 ≡ 0
zeros_at zero k = refl
zeros_at (suc n) zero = refl
zeros_at (suc n) (suc k) = zeros_at n k

pub zeros_le : (n k m : ℕ) → get_or (replicate {A = ℕ} n 0) k 0 ≤ m
zeros_le n k m = let z = zeros_at n k in omega arith

pub counts_most : (counts : List ℕ) (j k code to : ℕ) → ((m : ℕ) → get_or counts m 0 ≤ code) → code < to → j < length counts
    → get_or (set counts j (get_or counts j 0 + 1)) k 0 ≤ to
counts_most counts j k code to most lt room =
    ⊎_elim (λ l. other (λ q. omega arith)) (λ ge. ⊎_elim (λ l. other (λ q. omega arith)) (λ le. same (omega arith)) (cases_lt j k)) (cases_lt k j)
  where
    same : k ≡ j → get_or (set counts j (get_or counts j 0 + 1)) k 0 ≤ to
    same q =
        let value = ap (λ m. get_or (set counts j (get_or counts j 0 + 1)) m 0) q ∙ get_or-set_same counts j (get_or counts j 0 + 1) 0 room in
        let few = most j in
        omega arith

    other : (k ≡ j → ⊥) → get_or (set counts j (get_or counts j 0 + 1)) k 0 ≤ to
    other q = let value = get_or-set_other counts j k (get_or counts j 0 + 1) 0 q in let few = most k in omega arith
