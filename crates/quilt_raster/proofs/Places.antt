-- The leaves of a grid by their places in the order of the codes: where the first begins, and which one holds a pixel.
use Rattle.std.proofs.Common.{◌≡◌, ℕ, suc, ◌+◌, ◌-◌, ◌/◌, ◌*◌, ◌^◌, ◌<◌, ◌≤◌, length, get_or, ⊎_elim, ap, ap₂, sym, ◌∙◌, arith}
use Rattle.std.proofs.lemmas.Bool.{cases_lt}
use Rattle.std.proofs.lemmas.List.Elements.{Contains-get_or}
use Rattle.quilt_types.specs.declared.plane.Pixel.{Pixel}
use Rattle.quilt_types.specs.declared.plane.Block.{Block}
use Rattle.quilt_types.specs.Plane.{side, Holds}
use Rattle.quilt_types.specs.Layers.{Grid}
use Rattle.quilt_loc.specs.Codes.{code_at, code_from, code_to}
use Rattle.quilt_loc.proofs.Blocks.{side_most}
use Rattle.quilt_loc.proofs.Intervals.{held_code, code_from_is, code_to_is}
use Rattle.std.proofs.lemmas.List.{get_or_default}
use Rattle.std.proofs.Math.Nat.{mul-le-mul_left}
use Rattle.std.proofs.lemmas.Nat.{pow-add}
use Rattle.quilt_types.specs.Codes.{code, interleaved}
use Rattle.quilt_types.specs.Plane.{corner, IsBlock}
use Rattle.quilt_loc.proofs.Nesting.{nested, Holds-corner}
use Rattle.quilt_blocks.specs.Cutting.{leaves_by_code}
use Rattle.quilt_blocks.proofs.Chains.{size_of-nil, Follows-member, Follows-next, Follows-last, Follows-place}
use Rattle.quilt_blocks.proofs.Cuts.{leaves_run}
use Rattle.quilt_blocks.proofs.Painting.{code_in}

-- the leaf at a place, if there is one, begins at this code, and all leaves end there if there is none
pub record IsAt (n : ℕ) (g : Grid) (place at : ℕ) : Type 0 where
  pub inside : place ≤ length (leaves_by_code n g)
  pub begins : (d : Block × ℕ) → place < length (leaves_by_code n g) → code_from (get_or (leaves_by_code n g) place d).0 ≡ at
  pub ends : length (leaves_by_code n g) ≤ place → 4 ^ n ≤ at

-- multiples of a step
next_multiple : (s j m : ℕ) → s * j < s * m → s * j + s ≤ s * m
next_multiple s j m lt =
    ⊎_elim (λ less. let e : s * (j + 1) ≤ s * m = mul-le-mul_left s (let f : j + 1 ≤ m = omega arith in f) in omega arith)
    (λ le. let e : s * m ≤ s * j = mul-le-mul_left s le in absurd (omega arith)) (cases_lt j m)

-- a block ends where the square ends, or before
pub code_room : (n : ℕ) (b : Block) → n ≤ 12 → IsBlock n b → code_to b ≤ 4 ^ n
code_room n b most h =
    let k = h.level in
    let j = interleaved (12 - k) (b.x / 2 ^ k) (b.y / 2 ^ k) in
    let low = h.low in
    let from = code_from_is n b h most in
    let to = code_to_is n b h in
    let e : n ≡ k + (n - k) = omega arith in
    let all : 4 ^ n ≡ 4 ^ k * 4 ^ (n - k) = ap (λ z. 4 ^ z) e ∙ pow-add 4 k (n - k) in
    let inside = code_in n (corner b) most h.in_x h.in_y in
    let next = next_multiple (4 ^ k) j (4 ^ (n - k)) (omega arith) in
    omega arith

module _ (n : ℕ) (g : Grid) (most : n ≤ 12) where
  pub first_code : (d : Block × ℕ) → 0 < length (leaves_by_code n g) → code_from (get_or (leaves_by_code n g) 0 d).0 ≡ 0
  first_code d lt =
      let z = size_of-nil in
      let f = Follows-place n 0 (leaves_by_code n g) 0 d (leaves_run n g most).follows lt in
      omega arith

  -- the last leaf that begins at the code of a pixel or before holds it
  pub held_at : (p : Pixel) (low high : ℕ) (d : Block × ℕ) → p.x < side n → p.y < side n → low < high → high ≤ low + 1 → high ≤ length (leaves_by_code n g)
      → code_from (get_or (leaves_by_code n g) low d).0 ≤ code_at p
      → (high < length (leaves_by_code n g) → code_at p < code_from (get_or (leaves_by_code n g) high d).0)
      → Holds (get_or (leaves_by_code n g) low d).0 p
  held_at p low high d hx hy lt one inside from to =
      let es = leaves_by_code n g in
      let run = leaves_run n g most in
      let s = run.size in
      let m = side_most n most in
      let hb = (Follows-member n 0 es (get_or es low d) run.follows (Contains-get_or es low d (omega arith))).block in
      let ix = hb.in_x in
      let iy = hb.in_y in
      let next : high ≡ suc low = omega arith in
      let end : code_at p < code_to (get_or es low d).0 =
      ⊎_elim
      (λ more.
      let step = Follows-next n 0 es low d run.follows (omega arith) in
      let same = ap (λ i. code_from (get_or es i d).0) next in
      let t = to more in
      omega arith)
      (λ none.
      let step = Follows-last n 0 es low d run.follows (omega arith) in
      let c = code_in n p most hx hy in
      omega arith) (cases_lt high (length es)) in
      held_code n (get_or es low d).0 p hb most (omega arith) (omega arith) (omega arith) (omega arith) from end

  -- one leaf further
  pub IsAt-next : (place at : ℕ) (e : Block × ℕ) → place < length (leaves_by_code n g) → e ≡ get_or (leaves_by_code n g) place e → IsAt n g place at
      → IsAt n g (place + 1) (at + e.0.side * e.0.side)
  IsAt-next place at e lt is h =
      let es = leaves_by_code n g in
      let run = leaves_run n g most in
      let size = run.size in
      let from : code_from e.0 ≡ at = ap (λ (z : Block × ℕ). code_from z.0) is ∙ h.begins e lt in
      record {
        inside = omega arith;
        begins = λ d more.
            let next : place + 1 ≡ suc place = omega arith in
            let step = Follows-next n 0 es place d run.follows (omega arith) in
            let same : get_or es place d ≡ e = get_or_default es place d e lt ∙ sym is in
            let end = ap (λ (z : Block × ℕ). code_to z.0) same in
            let there = ap (λ i. code_from (get_or es i d).0) next in
            omega arith;
        ends = λ le.
            let last = Follows-last n 0 es place e run.follows (omega arith) in
            let end = ap (λ (z : Block × ℕ). code_to z.0) is in
            omega arith;
      }

  pub IsAt-some : (place at : ℕ) → at < 4 ^ n → IsAt n g place at → place < length (leaves_by_code n g)
  IsAt-some place at lt h = ⊎_elim (λ some. some) (λ none. let e = h.ends none in absurd (omega arith)) (cases_lt place (length (leaves_by_code n g)))

  -- the first leaf of a block that no larger leaf holds
  pub IsAt-corner : (b : Block) (place : ℕ) (e : Block × ℕ) → IsBlock n b → IsBlock n e.0 → e.0.side ≤ b.side → Holds e.0 (corner b)
      → place < length (leaves_by_code n g) → e ≡ get_or (leaves_by_code n g) place e → IsAt n g place (code_from b)
  IsAt-corner b place e hb he small held lt is =
      let es = leaves_by_code n g in
      let w = nested n e.0 b (corner b) he hb small held (Holds-corner n b hb) in
      let l = w.left in
      let t = w.top in
      let hl = held.left in
      let ht = held.top in
      let x : (e.0).x ≡ b.x = omega arith in
      let y : (e.0).y ≡ b.y = omega arith in
      record {
        inside = omega arith;
        begins = λ d some. ap (λ (z : Block × ℕ). code_from z.0) (get_or_default es place d e lt ∙ sym is) ∙ ap₂ (λ i j. code i j) x y;
        ends = λ none. absurd (omega arith);
      }
