-- The edges round a leaf, and the perimeter leaf by leaf.
use Rattle.std.proofs.Common.{◌≡◌, ℕ, zero, suc, ◌+◌, ◌-◌, ◌*◌, ◌<◌, ◌≤◌, Bool, true, false, cond, ◌&&◌, eqb, eq-eqb, eqb-true, ltb, lt-ltb, ltb-true, List, []}
use Rattle.std.proofs.Common.{◌∷◌, length, map, take, filter, sum_by, ⊎_elim, refl, sym, ◌∙◌, ap, ap₂, arith}
use Rattle.std.specs.Prelude.{pos, negsuc, ◌-ℤ◌, nat_abs, if◌then◌else◌}
use Rattle.std.proofs.Math.Nat.{mul-le-mul}
use Rattle.std.proofs.lemmas.Int.{ints}
use Rattle.std.proofs.lemmas.Bool.{cases_lt, false_from_ne_true, and_from, and_right, and_left, ne_eqb}
use Rattle.std.proofs.lemmas.List.Elements.{All-from_get_or}
use Rattle.std.proofs.lemmas.List.Sums.{sum_by-le, sum_by-take-le, length-filter, count_by-le-length}
use Rattle.quilt_types.specs.declared.plane.Pixel.{Pixel}
use Rattle.quilt_types.specs.declared.plane.Block.{Block}
use Rattle.quilt_types.specs.Plane.{side, below, pixels, pixels_of, is_pixel, IsBlock}
use Rattle.quilt_types.specs.Layers.{Grid, colour_at}
use Rattle.quilt_types.specs.Algebra.{difference_of, edges_of, perimeter}
use Rattle.quilt_loc.proofs.Blocks.{side_most, Contains-pixels_of_from}
use Rattle.quilt_loc.proofs.Nesting.{side_pos}
use Rattle.quilt_loc.proofs.Quartered.{Within-whole}
use Rattle.quilt_loc.proofs.Rows.{length-pixels}
use Rattle.quilt_blocks.specs.Mosaic.{HasColour}
use Rattle.quilt_blocks.specs.Cutting.{leaves_by_code}
use Rattle.quilt_blocks.proofs.Listed.{held_in}
use Rattle.quilt_measure.specs.declared.boundary.Side.TheVariants.{Left, Right, Top, Bottom}
use Rattle.quilt_measure.specs.Edges.{pixel_from, place, differs, bare_side}
use Rattle.quilt_measure.proofs.Sums.{sum_by-same, sum_by-plus, sum_by-constant, sum_by-filter_is, sum_by-map_is, sum_by-flat_map_is}
use Rattle.quilt_measure.proofs.Ranges.{below_same, below_constant, below_only}
use Rattle.quilt_measure.proofs.Parts.{a_leaf, sum_by_leaves}

-- how far two numbers are from each other
same_place : (a b : ℕ) → b ≡ a → difference_of a b ≡ 0
same_place a b e = ap (λ z. nat_abs z) (let z : pos a -ℤ pos b ≡ pos 0 = omega (arith, ints) in z)

one_less : (a b : ℕ) → b + 1 ≡ a → difference_of a b ≡ 1
one_less a b e = ap (λ z. nat_abs z) (let z : pos a -ℤ pos b ≡ pos 1 = omega (arith, ints) in z)

one_more : (a b : ℕ) → b ≡ a + 1 → difference_of a b ≡ 1
one_more a b e = ap (λ z. nat_abs z) (let z : pos a -ℤ pos b ≡ negsuc 0 = omega (arith, ints) in z)

-- the test of a neighbour
abbrev near : ℕ → Pixel → Pixel → Bool
near n p q = is_pixel n q && eqb (difference_of p.x q.x + difference_of p.y q.y) 1

near_yes : (n : ℕ) (p q : Pixel) → q.x < side n → q.y < side n → difference_of p.x q.x + difference_of p.y q.y ≡ 1 → near n p q ≡ true
near_yes n p q hx hy e = and_from _ _ (and_from _ _ (lt-ltb _ _ hx) (lt-ltb _ _ hy)) (eq-eqb _ _ e)

near_same : (n : ℕ) (p q : Pixel) → difference_of p.x q.x + difference_of p.y q.y ≡ 0 → near n p q ≡ false
near_same n p q e = and_right (is_pixel n q) _ (false_from_ne_true _ (λ t. let z = eqb-true _ _ t in omega arith))

near_out_x : (n : ℕ) (p q : Pixel) → side n ≤ q.x → near n p q ≡ false
near_out_x n p q h = and_left (is_pixel n q) _ (and_left (ltb q.x (side n)) _ (false_from_ne_true _ (λ t. let z = ltb-true _ _ t in omega arith)))

near_out_y : (n : ℕ) (p q : Pixel) → side n ≤ q.y → near n p q ≡ false
near_out_y n p q h = and_left (is_pixel n q) _ (and_right (ltb q.x (side n)) _ (false_from_ne_true _ (λ t. let z = ltb-true _ _ t in omega arith)))

-- 1 where the neighbour is there and of the same colour
abbrev alike : ℕ → Grid → Pixel → Pixel → ℕ
alike n g p q = cond (near n p q) (cond (eqb (colour_at n g q) (colour_at n g p)) 1 0) 0

flip : (b : Bool) → cond {A = ℕ} b 1 0 + cond {A = ℕ} b 0 1 ≡ 1
flip true = refl
flip false = refl

abbrev beyond : Bool → ℕ → Grid → ℕ → Pixel → ℕ
beyond out n g c q = if out then 1 else differs n g c q

edge_in : (out : Bool) (n : ℕ) (g : Grid) (c : ℕ) (p q : Pixel) → colour_at n g p ≡ c → near n p q ≡ true → out ≡ false → alike n g p q + beyond out n g c q ≡ 1
edge_in out n g c p q e has bare_not =
    ap₂ (λ i j. i + j) (ap (λ t. cond {A = ℕ} t (cond (eqb (colour_at n g q) (colour_at n g p)) 1 0) 0) has
    ∙ ap (λ k. cond {A = ℕ} (eqb (colour_at n g q) k) 1 0) e)
    (ap (λ t. beyond t n g c q) bare_not) ∙ flip (eqb (colour_at n g q) c)

edge_out : (out : Bool) (n : ℕ) (g : Grid) (c : ℕ) (p q : Pixel) → near n p q ≡ false → out ≡ true → alike n g p q + beyond out n g c q ≡ 1
edge_out out n g c p q lacks over =
    ap₂ (λ i j. i + j) (ap (λ t. cond {A = ℕ} t (cond (eqb (colour_at n g q) (colour_at n g p)) 1 0) 0) lacks) (ap (λ t. beyond t n g c q) over)

module _ (n : ℕ) (g : Grid) (c : ℕ) (p : Pixel) (hx : p.x < side n) (hy : p.y < side n) (e : colour_at n g p ≡ c) where
  left_edge : alike n g p (pixel_from (p.x - 1) p.y) + bare_side Left n g c p ≡ 1
  left_edge =
      let q = pixel_from (p.x - 1) p.y in
      let level = same_place p.y p.y refl in
      ⊎_elim
      (λ l. let d = one_less p.x (p.x - 1) (omega arith) in
      edge_in (eqb p.x 0) n g c p q e (near_yes n p q (omega arith) hy (omega arith)) (ne_eqb p.x 0 (λ z. omega arith)))
      (λ z. let d = same_place p.x (p.x - 1) (omega arith) in
      edge_out (eqb p.x 0) n g c p q (near_same n p q (omega arith)) (eq-eqb p.x 0 (omega arith))) (cases_lt 0 p.x)

  right_edge : alike n g p (pixel_from (p.x + 1) p.y) + bare_side Right n g c p ≡ 1
  right_edge =
      let q = pixel_from (p.x + 1) p.y in
      let level = same_place p.y p.y refl in
      let d = one_more p.x (p.x + 1) refl in
      ⊎_elim
      (λ l. edge_in (eqb (p.x + 1) (side n)) n g c p q e (near_yes n p q l hy (omega arith)) (ne_eqb (p.x + 1) (side n) (λ z. omega arith)))
      (λ z. edge_out (eqb (p.x + 1) (side n)) n g c p q (near_out_x n p q z) (eq-eqb (p.x + 1) (side n) (omega arith))) (cases_lt (p.x + 1) (side n))

  top_edge : alike n g p (pixel_from p.x (p.y - 1)) + bare_side Top n g c p ≡ 1
  top_edge =
      let q = pixel_from p.x (p.y - 1) in
      let level = same_place p.x p.x refl in
      ⊎_elim
      (λ l. let d = one_less p.y (p.y - 1) (omega arith) in
      edge_in (eqb p.y 0) n g c p q e (near_yes n p q hx (omega arith) (omega arith)) (ne_eqb p.y 0 (λ z. omega arith)))
      (λ z. let d = same_place p.y (p.y - 1) (omega arith) in
      edge_out (eqb p.y 0) n g c p q (near_same n p q (omega arith)) (eq-eqb p.y 0 (omega arith))) (cases_lt 0 p.y)

  bottom_edge : alike n g p (pixel_from p.x (p.y + 1)) + bare_side Bottom n g c p ≡ 1
  bottom_edge =
      let q = pixel_from p.x (p.y + 1) in
      let level = same_place p.x p.x refl in
      let d = one_more p.y (p.y + 1) refl in
      ⊎_elim
      (λ l. edge_in (eqb (p.y + 1) (side n)) n g c p q e (near_yes n p q hx l (omega arith)) (ne_eqb (p.y + 1) (side n) (λ z. omega arith)))
      (λ z. edge_out (eqb (p.y + 1) (side n)) n g c p q (near_out_y n p q z) (eq-eqb (p.y + 1) (side n) (omega arith))) (cases_lt (p.y + 1) (side n))

  four_edges : (a b d f i j k l : ℕ) → a + i ≡ 1 → b + j ≡ 1 → d + k ≡ 1 → f + l ≡ 1 → 4 - (0 + a + b + d + f) ≡ i + j + k + l
  four_edges a b d f i j k l ea eb ed ef = omega arith

  -- the edges of a pixel are those of its four sides
  pixel_edges : edges_of n g p ≡ bare_side Left n g c p + bare_side Right n g c p + bare_side Top n g c p + bare_side Bottom n g c p
  pixel_edges =
      let four : List Pixel = pixel_from (p.x - 1) p.y ∷ pixel_from (p.x + 1) p.y ∷ pixel_from p.x (p.y - 1) ∷ pixel_from p.x (p.y + 1) ∷ [] in
      ap (λ k. 4 - k) (sum_by-filter_is (λ q. cond (eqb (colour_at n g q) (colour_at n g p)) 1 0) (near n p) four)
      ∙ four_edges (alike n g p (pixel_from (p.x - 1) p.y)) (alike n g p (pixel_from (p.x + 1) p.y)) (alike n g p (pixel_from p.x (p.y - 1)))
      (alike n g p (pixel_from p.x (p.y + 1))) _ _ _ _ left_edge right_edge top_edge bottom_edge

-- a sum over the pixels of a block, row by row
rows : (f : Pixel → ℕ) (b : Block) → sum_by f (pixels_of b) ≡ sum_by (λ dy. sum_by (λ dx. f (pixel_from (b.x + dx) (b.y + dy))) (below b.side)) (below b.side)
unfolding pixels_of
rows f b =
    sum_by-flat_map_is f (λ dy. map (λ dx. pixel_from (b.x + dx) (b.y + dy)) (below b.side)) (below b.side)
    ∙ sum_by-same (λ dy. sum_by f (map (λ dx. pixel_from (b.x + dx) (b.y + dy)) (below b.side)))
    (λ dy. sum_by (λ dx. f (pixel_from (b.x + dx) (b.y + dy))) (below b.side)) (below b.side)
    (λ dy _. sum_by-map_is f (λ dx. pixel_from (b.x + dx) (b.y + dy)) (below b.side))

module _ (n : ℕ) (g : Grid) (c : ℕ) (b : Block) (h : IsBlock n b) (k : HasColour n g b c) where
  inside_is : (out : Bool) (x y : ℕ) → out ≡ false → b.x ≤ x → x < b.x + b.side → b.y ≤ y → y < b.y + b.side → beyond out n g c (pixel_from x y) ≡ 0
  inside_is out x y within l r t d =
      ap (λ i. beyond i n g c (pixel_from x y)) within
      ∙ ap (λ z. cond {A = ℕ} (eqb z c) 0 1) (k.each (pixel_from x y) (record { left = l; right = r; top = t; bottom = d }))
      ∙ ap (λ z. cond {A = ℕ} z 0 1) (eq-eqb c c refl)

  left_sum : sum_by (bare_side Left n g c) (pixels_of b) ≡ sum_by (λ t. bare_side Left n g c (place Left b t)) (below b.side)
  left_sum =
      let pos = side_pos n b h in
      rows (bare_side Left n g c) b
      ∙ below_same (λ dy. sum_by (λ dx. bare_side Left n g c (pixel_from (b.x + dx) (b.y + dy))) (below b.side)) (λ t. bare_side Left n g c (place Left b t)) b.side
      (λ dy ly. below_only (λ dx. bare_side Left n g c (pixel_from (b.x + dx) (b.y + dy))) b.side 0 pos
      (λ dx lx ne. inside_is (eqb (b.x + dx) 0) (b.x + dx - 1) (b.y + dy) (ne_eqb (b.x + dx) 0 (λ z. ne (omega arith))) (apart_one dx ne)
      (omega arith) (omega arith) (omega arith))
      ∙ (let z : b.x + 0 ≡ b.x = omega arith in ap (λ x. bare_side Left n g c (pixel_from x (b.y + dy))) z))
    where
      apart_one : (dx : ℕ) → (dx ≡ 0 → ⊥) → b.x ≤ b.x + dx - 1
      apart_one zero ne = absurd (ne refl)
      apart_one (suc i) ne = omega arith

  right_sum : sum_by (bare_side Right n g c) (pixels_of b) ≡ sum_by (λ t. bare_side Right n g c (place Right b t)) (below b.side)
  right_sum =
      let pos = side_pos n b h in
      let fits = (Within-whole n b h).right in
      rows (bare_side Right n g c) b
      ∙ below_same (λ dy. sum_by (λ dx. bare_side Right n g c (pixel_from (b.x + dx) (b.y + dy))) (below b.side)) (λ t. bare_side Right n g c (place Right b t)) b.side
      (λ dy ly. below_only (λ dx. bare_side Right n g c (pixel_from (b.x + dx) (b.y + dy))) b.side (b.side - 1) (omega arith)
      (λ dx lx ne.
      let more = not_last dx b.side lx ne in
      inside_is (eqb (b.x + dx + 1) (side n)) (b.x + dx + 1) (b.y + dy) (ne_eqb (b.x + dx + 1) (side n) (λ z. omega arith)) (omega arith)
      (omega arith) (omega arith) (omega arith))
      ∙ (let z : b.x + (b.side - 1) ≡ b.x + b.side - 1 = omega arith in ap (λ x. bare_side Right n g c (pixel_from x (b.y + dy))) z))
    where
      not_last : (dx s : ℕ) → dx < s → (dx ≡ s - 1 → ⊥) → dx + 1 < s
      not_last dx s lt ne = ⊎_elim (λ l. l) (λ z. absurd (ne (omega arith))) (cases_lt (dx + 1) s)

  top_sum : sum_by (bare_side Top n g c) (pixels_of b) ≡ sum_by (λ t. bare_side Top n g c (place Top b t)) (below b.side)
  top_sum =
      let pos = side_pos n b h in
      rows (bare_side Top n g c) b
      ∙ below_only (λ dy. sum_by (λ dx. bare_side Top n g c (pixel_from (b.x + dx) (b.y + dy))) (below b.side)) b.side 0 pos
      (λ dy ly ne. below_constant (λ dx. bare_side Top n g c (pixel_from (b.x + dx) (b.y + dy))) 0 b.side
      (λ dx lx. inside_is (eqb (b.y + dy) 0) (b.x + dx) (b.y + dy - 1) (ne_eqb (b.y + dy) 0 (λ z. ne (omega arith))) (omega arith) (omega arith)
      (apart_one dy ne) (omega arith))
      ∙ (let z : b.side * 0 ≡ 0 = omega arith in z))
      ∙ (let z : b.y + 0 ≡ b.y = omega arith in ap (λ y. sum_by (λ dx. bare_side Top n g c (pixel_from (b.x + dx) y)) (below b.side)) z)
    where
      apart_one : (dy : ℕ) → (dy ≡ 0 → ⊥) → b.y ≤ b.y + dy - 1
      apart_one zero ne = absurd (ne refl)
      apart_one (suc i) ne = omega arith

  bottom_sum : sum_by (bare_side Bottom n g c) (pixels_of b) ≡ sum_by (λ t. bare_side Bottom n g c (place Bottom b t)) (below b.side)
  bottom_sum =
      let pos = side_pos n b h in
      let fits = (Within-whole n b h).bottom in
      rows (bare_side Bottom n g c) b
      ∙ below_only (λ dy. sum_by (λ dx. bare_side Bottom n g c (pixel_from (b.x + dx) (b.y + dy))) (below b.side)) b.side (b.side - 1) (omega arith)
      (λ dy ly ne. below_constant (λ dx. bare_side Bottom n g c (pixel_from (b.x + dx) (b.y + dy))) 0 b.side
      (λ dx lx.
      let more = not_last dy b.side ly ne in
      inside_is (eqb (b.y + dy + 1) (side n)) (b.x + dx) (b.y + dy + 1) (ne_eqb (b.y + dy + 1) (side n) (λ z. omega arith)) (omega arith)
      (omega arith) (omega arith) (omega arith))
      ∙ (let z : b.side * 0 ≡ 0 = omega arith in z))
      ∙ (let z : b.y + (b.side - 1) ≡ b.y + b.side - 1 = omega arith in ap (λ y. sum_by (λ dx. bare_side Bottom n g c (pixel_from (b.x + dx) y)) (below b.side)) z)
    where
      not_last : (dy s : ℕ) → dy < s → (dy ≡ s - 1 → ⊥) → dy + 1 < s
      not_last dy s lt ne = ⊎_elim (λ l. l) (λ z. absurd (ne (omega arith))) (cases_lt (dy + 1) s)

  -- the edges of the pixels of a block of one colour are those along its sides
  pub edges_sum : sum_by (λ t. bare_side Left n g c (place Left b t)) (below b.side) + sum_by (λ t. bare_side Right n g c (place Right b t)) (below b.side)
      + sum_by (λ t. bare_side Top n g c (place Top b t)) (below b.side) + sum_by (λ t. bare_side Bottom n g c (place Bottom b t)) (below b.side)
      ≡ sum_by (edges_of n g) (pixels_of b)
  edges_sum =
      let l = bare_side Left n g c in
      let r = bare_side Right n g c in
      let t = bare_side Top n g c in
      let d = bare_side Bottom n g c in
      sym (sum_by-same (edges_of n g) (λ p. l p + r p + t p + d p) (pixels_of b) (λ p m.
      let held = Contains-pixels_of_from b p m in
      let sq = held_in n b p h held in
      pixel_edges n g c p sq.0 sq.1 (k.each p held))
      ∙ sum_by-plus (λ p. l p + r p + t p) d (pixels_of b)
      ∙ ap₂ (λ i j. i + j) (sum_by-plus (λ p. l p + r p) t (pixels_of b)
      ∙ ap₂ (λ i j. i + j) (sum_by-plus l r (pixels_of b) ∙ ap₂ (λ i j. i + j) left_sum right_sum) top_sum) bottom_sum)

-- what a leaf adds to the perimeter of a colour
abbrev pub round : ℕ → Grid → ℕ → Block × ℕ → ℕ
round n g c e = cond (eqb e.1 c) (sum_by (edges_of n g) (pixels_of e.0)) 0

pub perimeter_is : (n : ℕ) (g : Grid) (c : ℕ) → n ≤ 12 → sum_by (round n g c) (leaves_by_code n g) ≡ perimeter n g c
perimeter_is n g c le =
    sym (sum_by-filter_is (edges_of n g) (λ p. eqb (colour_at n g p) c) (pixels n)
    ∙ sum_by_leaves n g (λ p. cond (eqb (colour_at n g p) c) (edges_of n g p) 0) le
    ∙ sum_by-same (λ (e : Block × ℕ). sum_by (λ p. cond (eqb (colour_at n g p) c) (edges_of n g p) 0) (pixels_of e.0)) (round n g c)
    (leaves_by_code n g) (λ e m.
    let l = a_leaf n g e m in
    sum_by-same (λ p. cond (eqb (colour_at n g p) c) (edges_of n g p) 0) (λ p. cond (eqb e.1 c) (edges_of n g p) 0) (pixels_of e.0)
    (λ p h. ap (λ z. cond {A = ℕ} (eqb z c) (edges_of n g p) 0) (l.colour.each p (Contains-pixels_of_from e.0 p h)))
    ∙ by (eqb e.1 c) (pixels_of e.0)))
  where
    by : (t : Bool) (ps : List Pixel) → sum_by (λ p. cond t (edges_of n g p) 0) ps ≡ cond t (sum_by (edges_of n g) ps) 0
    by true ps = refl
    by false ps = sum_by-constant (λ (p : Pixel). 0) 0 ps (λ _ _. refl) ∙ (let z : length ps * 0 ≡ 0 = omega arith in z)

perimeter_small : (n : ℕ) (g : Grid) (c : ℕ) → n ≤ 12 → perimeter n g c ≤ 4096 * 4096 * 4
perimeter_small n g c le =
    let own : Pixel → Bool = λ p. eqb (colour_at n g p) c in
    let ps = filter own (pixels n) in
    let few = sum_by-le (edges_of n g) 4 ps (All-from_get_or (λ p. edges_of n g p ≤ 4) ps (pixel_from 0 0) (λ i lt. omega arith)) in
    let some = length-filter own (pixels n) in
    let less = count_by-le-length own (pixels n) in
    let all = length-pixels n in
    let m = side_most n le in
    let most : side n * side n ≤ 4096 * 4096 = mul-le-mul m m in
    omega arith

-- no part of a perimeter is larger than the edges of all pixels
pub some_perimeter_small : (n : ℕ) (g : Grid) (c i : ℕ) → n ≤ 12 → sum_by (round n g c) (take i (leaves_by_code n g)) ≤ 4096 * 4096 * 4
some_perimeter_small n g c i le =
    let some = sum_by-take-le (round n g c) (leaves_by_code n g) i in
    let all = perimeter_is n g c le in
    let small = perimeter_small n g c le in
    omega arith
