-- The sides of blocks: what stands along them and behind them.
use Rattle.std.proofs.Common.{◌≡◌, ℕ, zero, suc, ◌+◌, ◌-◌, ◌*◌, ◌/◌, ◌%◌, ◌<◌, ◌≤◌, Bool, true, false, cond, eqb, eq-eqb, Option, Some, None, Contains, ⊎_elim}
use Rattle.std.proofs.Common.{sum_by, refl, sym, ◌∙◌, ap, ap₂, subst, arith}
use Rattle.std.specs.Prelude.{if◌then◌else◌}
use Rattle.std.proofs.lemmas.Bool.{cases_lt, both_ways, eqb-false}
use Rattle.std.proofs.lemmas.Nat.{mod-mul-add, div-add-mod'}
use Rattle.quilt_types.specs.declared.plane.Pixel.{Pixel}
use Rattle.quilt_types.specs.declared.plane.Block.{Block}
use Rattle.quilt_types.specs.Plane.{side, below, quarters_of, Holds, IsBlock}
use Rattle.quilt_types.specs.Layers.{Grid}
use Rattle.quilt_loc.proofs.Nesting.{side_pos}
use Rattle.quilt_loc.proofs.Quartered.{IsQuarter, quarters_are, Within-whole}
use Rattle.quilt_blocks.specs.Mosaic.{HasColour}
use Rattle.quilt_measure.specs.declared.boundary.Side.{Side}
use Rattle.quilt_measure.specs.declared.boundary.Side.TheVariants.{Left, Right, Top, Bottom}
use Rattle.quilt_measure.specs.Edges.{pixel_from, block, place, differs, bare_side, behind_of, opposite_of, halves_of}
use Rattle.quilt_measure.proofs.Ranges.{below_same, below_constant, below_split}

-- the pixels along a side are the block's
pub place_held : (on : Side) (n : ℕ) (b : Block) (t : ℕ) → IsBlock n b → t < b.side → Holds b (place on b t)
place_held Left n b t h lt = record { left = omega arith; right = omega arith; top = omega arith; bottom = omega arith }
place_held Right n b t h lt = record { left = omega arith; right = omega arith; top = omega arith; bottom = omega arith }
place_held Top n b t h lt = record { left = omega arith; right = omega arith; top = omega arith; bottom = omega arith }
place_held Bottom n b t h lt = record { left = omega arith; right = omega arith; top = omega arith; bottom = omega arith }

first_in : (on : Side) (b : Block) → Contains (quarters_of b) (halves_of on b).0
first_in Left b = (0, omega arith, refl)
first_in Right b = (1, omega arith, refl)
first_in Top b = (0, omega arith, refl)
first_in Bottom b = (2, omega arith, refl)

second_in : (on : Side) (b : Block) → Contains (quarters_of b) (halves_of on b).1
second_in Left b = (2, omega arith, refl)
second_in Right b = (3, omega arith, refl)
second_in Top b = (1, omega arith, refl)
second_in Bottom b = (3, omega arith, refl)

pub first_half : (on : Side) (n : ℕ) (b : Block) → IsBlock n b → 1 < b.side → IsQuarter n b (halves_of on b).0
first_half on n b h wide = quarters_are n b (halves_of on b).0 h wide (first_in on b)

pub second_half : (on : Side) (n : ℕ) (b : Block) → IsBlock n b → 1 < b.side → IsQuarter n b (halves_of on b).1
second_half on n b h wide = quarters_are n b (halves_of on b).1 h wide (second_in on b)

place_first : (on : Side) (b : Block) (u t : ℕ) → 2 * u ≡ b.side → 0 < u → place on (halves_of on b).0 t ≡ place on b t
place_first Left b u t e p = refl
place_first Right b u t e p = let x : b.x + b.side / 2 + b.side / 2 - 1 ≡ b.x + b.side - 1 = omega arith in ap (λ z. pixel_from z (b.y + t)) x
place_first Top b u t e p = refl
place_first Bottom b u t e p = let y : b.y + b.side / 2 + b.side / 2 - 1 ≡ b.y + b.side - 1 = omega arith in ap (pixel_from (b.x + t)) y

place_second : (on : Side) (b : Block) (u t : ℕ) → 2 * u ≡ b.side → 0 < u → place on (halves_of on b).1 t ≡ place on b (u + t)
place_second Left b u t e p = let y : b.y + b.side / 2 + t ≡ b.y + (u + t) = omega arith in ap (pixel_from b.x) y
place_second Right b u t e p =
    let x : b.x + b.side / 2 + b.side / 2 - 1 ≡ b.x + b.side - 1 = omega arith in
    let y : b.y + b.side / 2 + t ≡ b.y + (u + t) = omega arith in
    ap₂ pixel_from x y
place_second Top b u t e p = let x : b.x + b.side / 2 + t ≡ b.x + (u + t) = omega arith in ap (λ z. pixel_from z b.y) x
place_second Bottom b u t e p =
    let x : b.x + b.side / 2 + t ≡ b.x + (u + t) = omega arith in
    let y : b.y + b.side / 2 + b.side / 2 - 1 ≡ b.y + b.side - 1 = omega arith in
    ap₂ pixel_from x y

-- a sum along a side by the two quarters there
pub along_halves : (f : Pixel → ℕ) (on : Side) (n : ℕ) (b : Block) → IsBlock n b → 1 < b.side
    → sum_by (λ t. f (place on b t)) (below b.side) ≡ sum_by (λ t. f (place on (halves_of on b).0 t)) (below (halves_of on b).0.side)
    + sum_by (λ t. f (place on (halves_of on b).1 t)) (below (halves_of on b).1.side)
along_halves f on n b h wide =
    let u = (halves_of on b).0.side in
    let v = (halves_of on b).1.side in
    let eu = (first_half on n b h wide).half in
    let ev = (second_half on n b h wide).half in
    let all : b.side ≡ u + v = omega arith in
    ap (λ s. sum_by (λ t. f (place on b t)) (below s)) all ∙ below_split (λ t. f (place on b t)) u v
    ∙ ap₂ (λ i j. i + j) (below_same (λ t. f (place on b t)) (λ t. f (place on (halves_of on b).0 t)) u
    (λ t lt. ap f (sym (place_first on b u t eu (omega arith)))))
    (below_same (λ t. f (place on b (u + t))) (λ t. f (place on (halves_of on b).1 t)) v (λ t lt. ap f (sym (place_second on b u t eu (omega arith)))))

-- along a side of a block of one colour
pub along_one : (on : Side) (n : ℕ) (g : Grid) (c d : ℕ) (b : Block) → IsBlock n b → HasColour n g b d
    → sum_by (λ t. differs n g c (place on b t)) (below b.side) ≡ b.side * cond {A = ℕ} (eqb d c) 0 1
along_one on n g c d b h k = below_constant (λ t. differs n g c (place on b t)) (cond {A = ℕ} (eqb d c) 0 1) b.side
    (λ t lt. ap (λ z. cond {A = ℕ} (eqb z c) 0 1) (k.each (place on b t) (place_held on n b t h lt)))

pub other_all : (s d c : ℕ) → eqb d c ≡ false → s * cond {A = ℕ} (eqb d c) 0 1 ≡ s
other_all s d c e = ap (λ b. s * cond {A = ℕ} b 0 1) e ∙ (let z : s * 1 ≡ s = omega arith in z)

pub other_none : (s d c : ℕ) → eqb d c ≡ true → s * cond {A = ℕ} (eqb d c) 0 1 ≡ 0
other_none s d c e = ap (λ b. s * cond {A = ℕ} b 0 1) e ∙ (let z : s * 0 ≡ 0 = omega arith in z)

-- multiples beside one
less_multiple : (x s : ℕ) → 0 < s → x % s ≡ 0 → 0 < x → (s ≤ x) × ((x - s) % s ≡ 0)
less_multiple x s p e pos =
    let d = div-add-mod' x s in
    by (x / s) (omega arith)
  where
    by : (k : ℕ) → x ≡ k * s → (s ≤ x) × ((x - s) % s ≡ 0)
    by zero q = absurd (omega arith)
    by (suc k) q =
        let m : suc k * s ≡ k * s + s = more k s in
        let r : x - s ≡ k * s + 0 = omega arith in
        (omega arith, ap (λ z. z % s) r ∙ mod-mul-add k s 0 p)
      where
        more : (k s : ℕ) → suc k * s ≡ k * s + s
        more k s = omega arith

more_multiple : (x s : ℕ) → 0 < s → x % s ≡ 0 → (x + s) % s ≡ 0
more_multiple x s p e =
    let d = div-add-mod' x s in
    let m = more (x / s) s in
    let r : x + s ≡ suc (x / s) * s + 0 = omega arith in
    ap (λ z. z % s) r ∙ mod-mul-add (suc (x / s)) s 0 p
  where
    more : (k s : ℕ) → suc k * s ≡ k * s + s
    more k s = omega arith

-- what a choice was
chosen : (t : Bool) (q w : Block) → Some q ≡ (if t then None else Some w) → (t ≡ false) × (q ≡ w)
chosen true q w e = absurd (cc)
chosen false q w e = (refl, ap (λ o. block_or o w) e)
  where
    block_or : Option Block → Block → Block
    block_or None d = d
    block_or (Some z) d = z

not_chosen : (t : Bool) (w : Block) → None ≡ (if t then None else Some w) → t ≡ true
not_chosen true w e = refl
not_chosen false w e = absurd (cc)

-- the block behind a side: what stands along it is what stands behind this one's
pub record IsBehind (n : ℕ) (on : Side) (b q : Block) : Type 0 where
  pub valid : IsBlock n q
  pub size : q.side ≡ b.side
  pub each : (g : Grid) (c t : ℕ) → t < b.side → bare_side on n g c (place on b t) ≡ differs n g c (place (opposite_of on) q t)

bare_in : (out : Bool) (n : ℕ) (g : Grid) (c : ℕ) (p q : Pixel) → out ≡ false → p ≡ q → (if out then 1 else differs n g c p) ≡ differs n g c q
bare_in out n g c p q e same = ap (λ t. if t then 1 else differs n g c p) e ∙ ap (differs n g c) same

bare_out : (out : Bool) (v : ℕ) → out ≡ true → (if out then 1 else v) ≡ 1
bare_out out v e = ap (λ t. if t then 1 else v) e

pub behind_is : (on : Side) (n : ℕ) (b q : Block) → IsBlock n b → Some q ≡ behind_of on n b → IsBehind n on b q
behind_is Left n b q h e =
    let w = chosen (eqb b.x 0) q (block (b.x - b.side) b.y b.side) e in
    let pos = side_pos n b h in
    let apart = eqb-false b.x 0 w.0 in
    let in_x = h.in_x in
    let m = less_multiple b.x b.side pos h.on_x (⊎_elim (λ l. l) (λ z. absurd (apart (omega arith))) (cases_lt 0 b.x)) in
    let low = m.0 in
    subst (IsBehind n Left b) (sym w.1) (record {
      valid = record { level = h.level; low = h.low; size = h.size; on_x = m.1; on_y = h.on_y; in_x = omega arith; in_y = h.in_y };
      size = refl;
      each = λ g c t lt. bare_in (eqb b.x 0) n g c _ _ w.0 (let x : b.x - 1 ≡ b.x - b.side + b.side - 1 = omega arith in ap (λ z. pixel_from z (b.y + t)) x);
    })
behind_is Right n b q h e =
    let w = chosen (eqb (b.x + b.side) (side n)) q (block (b.x + b.side) b.y b.side) e in
    let pos = side_pos n b h in
    let apart = eqb-false (b.x + b.side) (side n) w.0 in
    let fits = (Within-whole n b h).right in
    let same : b.x + b.side - 1 + 1 ≡ b.x + b.side = omega arith in
    let lt : b.x + b.side < side n = ⊎_elim (λ l. l) (λ z. absurd (apart (omega arith))) (cases_lt (b.x + b.side) (side n)) in
    subst (IsBehind n Right b) (sym w.1) (record {
      valid = record { level = h.level; low = h.low; size = h.size; on_x = more_multiple b.x b.side pos h.on_x; on_y = h.on_y; in_x = lt; in_y = h.in_y };
      size = refl;
      each = λ g c t l. bare_in (eqb (b.x + b.side - 1 + 1) (side n)) n g c _ _ (ap (λ z. eqb z (side n)) same ∙ w.0) (ap (λ z. pixel_from z (b.y + t)) same);
    })
behind_is Top n b q h e =
    let w = chosen (eqb b.y 0) q (block b.x (b.y - b.side) b.side) e in
    let pos = side_pos n b h in
    let apart = eqb-false b.y 0 w.0 in
    let in_y = h.in_y in
    let m = less_multiple b.y b.side pos h.on_y (⊎_elim (λ l. l) (λ z. absurd (apart (omega arith))) (cases_lt 0 b.y)) in
    let low = m.0 in
    subst (IsBehind n Top b) (sym w.1) (record {
      valid = record { level = h.level; low = h.low; size = h.size; on_x = h.on_x; on_y = m.1; in_x = h.in_x; in_y = omega arith };
      size = refl;
      each = λ g c t lt. bare_in (eqb b.y 0) n g c _ _ w.0 (let y : b.y - 1 ≡ b.y - b.side + b.side - 1 = omega arith in ap (pixel_from (b.x + t)) y);
    })
behind_is Bottom n b q h e =
    let w = chosen (eqb (b.y + b.side) (side n)) q (block b.x (b.y + b.side) b.side) e in
    let pos = side_pos n b h in
    let apart = eqb-false (b.y + b.side) (side n) w.0 in
    let fits = (Within-whole n b h).bottom in
    let same : b.y + b.side - 1 + 1 ≡ b.y + b.side = omega arith in
    let lt : b.y + b.side < side n = ⊎_elim (λ l. l) (λ z. absurd (apart (omega arith))) (cases_lt (b.y + b.side) (side n)) in
    subst (IsBehind n Bottom b) (sym w.1) (record {
      valid = record { level = h.level; low = h.low; size = h.size; on_x = h.on_x; on_y = more_multiple b.y b.side pos h.on_y; in_x = h.in_x; in_y = lt };
      size = refl;
      each = λ g c t l. bare_in (eqb (b.y + b.side - 1 + 1) (side n)) n g c _ _ (ap (λ z. eqb z (side n)) same ∙ w.0) (ap (pixel_from (b.x + t)) same);
    })

bare_at_end : (on : Side) (n : ℕ) (g : Grid) (c t : ℕ) (b : Block) → IsBlock n b → None ≡ behind_of on n b → bare_side on n g c (place on b t) ≡ 1
bare_at_end Left n g c t b h e = bare_out (eqb b.x 0) _ (not_chosen (eqb b.x 0) (block (b.x - b.side) b.y b.side) e)
bare_at_end Right n g c t b h e =
    let pos = side_pos n b h in
    let same : b.x + b.side - 1 + 1 ≡ b.x + b.side = omega arith in
    bare_out (eqb (b.x + b.side - 1 + 1) (side n)) _
    (ap (λ z. eqb z (side n)) same ∙ not_chosen (eqb (b.x + b.side) (side n)) (block (b.x + b.side) b.y b.side) e)
bare_at_end Top n g c t b h e = bare_out (eqb b.y 0) _ (not_chosen (eqb b.y 0) (block b.x (b.y - b.side) b.side) e)
bare_at_end Bottom n g c t b h e =
    let pos = side_pos n b h in
    let same : b.y + b.side - 1 + 1 ≡ b.y + b.side = omega arith in
    bare_out (eqb (b.y + b.side - 1 + 1) (side n)) _
    (ap (λ z. eqb z (side n)) same ∙ not_chosen (eqb (b.y + b.side) (side n)) (block b.x (b.y + b.side) b.side) e)

-- a side at the end of the square
pub bare_along_end : (on : Side) (n : ℕ) (g : Grid) (c : ℕ) (b : Block) → IsBlock n b → None ≡ behind_of on n b
    → sum_by (λ t. bare_side on n g c (place on b t)) (below b.side) ≡ b.side
bare_along_end on n g c b h e =
    below_constant (λ t. bare_side on n g c (place on b t)) 1 b.side (λ t lt. bare_at_end on n g c t b h e) ∙ (let o : b.side * 1 ≡ b.side = omega arith in o)

-- a side with a block behind it
pub bare_along : (on : Side) (n : ℕ) (g : Grid) (c : ℕ) (b q : Block) → IsBehind n on b q
    → sum_by (λ t. bare_side on n g c (place on b t)) (below b.side) ≡ sum_by (λ t. differs n g c (place (opposite_of on) q t)) (below q.side)
bare_along on n g c b q w =
    below_same (λ t. bare_side on n g c (place on b t)) (λ t. differs n g c (place (opposite_of on) q t)) b.side (λ t lt. w.each g c t lt)
    ∙ ap (λ s. sum_by (λ t. differs n g c (place (opposite_of on) q t)) (below s)) (sym w.size)
