-- A block has no more leaves than pixels.
use Rattle.std.proofs.Common.{◌≡◌, ℕ, zero, suc, ◌+◌, ◌/◌, ◌^◌, ◌<◌, ◌≤◌, Bool, true, false, cond, List, [], ◌∷◌, length, flat_map, refl, ap, sym, ◌∙◌, arith, pow-suc}
use Rattle.std.proofs.Math.Nat.{pow-le-pow_right, one-le-pow}
use Rattle.quilt_types.specs.declared.plane.Block.{Block}
use Rattle.quilt_types.specs.Plane.{whole, quarters_of, IsBlock}
use Rattle.quilt_types.specs.Layers.{Grid}
use Rattle.quilt_types.specs.Quadtrees.{is_uniform}
use Rattle.quilt_types.proofs.CodeLaws.{pow_same}
use Rattle.quilt_blocks.specs.Cutting.{cut, leaves_by_code}
use Rattle.quilt_tally.specs.Tallies.{HasLeaves, HasPast}
use Rattle.quilt_tally.proofs.Joining.{four_lengths, list_leaves}

either_few : (t : Bool) (b : Block) (bs : List Block) (most : ℕ) → 0 < most → length bs ≤ most → length (cond t (b ∷ []) bs) ≤ most
either_few true b bs most pos le = let one : length (b ∷ []) ≡ 1 = refl in omega arith
either_few false b bs most pos le = le

quarters_few : (f : Block → List Block) (k : ℕ) (b : Block) → ((q : Block) → length (f q) ≤ 4 ^ k) → length (flat_map f (quarters_of b)) ≤ 4 ^ suc k
quarters_few f k b few =
    let h = b.side / 2 in
    let q0 : Block = record { x = b.x; y = b.y; side = b.side / 2 } in
    let q1 : Block = record { x = b.x + b.side / 2; y = b.y; side = b.side / 2 } in
    let q2 : Block = record { x = b.x; y = b.y + b.side / 2; side = b.side / 2 } in
    let q3 : Block = record { x = b.x + b.side / 2; y = b.y + b.side / 2; side = b.side / 2 } in
    let sum : length (flat_map f (quarters_of b)) ≡ length (f q0) + length (f q1) + length (f q2) + length (f q3) =
    four_lengths (f q0) (f q1) (f q2) (f q3) in
    let a = few q0 in
    let c = few q1 in
    let d = few q2 in
    let e = few q3 in
    let p = pow-suc 4 k in
    omega arith

cuts_few : (fits : Block → Bool) (k : ℕ) (b : Block) → length (cut fits k b) ≤ 4 ^ k
cuts_few fits zero b = let one : length (b ∷ []) ≡ 1 = refl in omega arith
cuts_few fits (suc k) b =
    either_few (fits b) b (flat_map (cut fits k) (quarters_of b)) (4 ^ suc k) (one-le-pow (suc k) 4 (omega arith)) (quarters_few (cut fits k) k b (cuts_few fits k))

-- no block of a level up to 12 has more leaves than a number of 32 bits can be
pub never_past : (n : ℕ) (g : Grid) (b : Block) → n ≤ 12 → IsBlock n b → HasPast n g b 4294967295 → ⊥
never_past n g b le hb past =
    let k = hb.level in
    let low = hb.low in
    let leaves : HasLeaves n g b (length (cut (is_uniform n g) k b)) = record {
      cut_into = λ j s. ap (λ l. length (cut (is_uniform n g) l b)) (pow_same j k (sym s ∙ hb.size));
    } in
    let over = past.over (length (cut (is_uniform n g) k b)) leaves in
    let few = cuts_few (is_uniform n g) k b in
    let most : 4 ^ k ≤ 4 ^ 12 = pow-le-pow_right (let p : 0 < 4 = omega arith in p) (let l : k ≤ 12 = omega arith in l) in
    omega arith

-- nor does its list have more
pub list_few : (n : ℕ) (g : Grid) → n ≤ 12 → length (leaves_by_code n g) ≤ 16777216
list_few n g le =
    let cuts = (list_leaves n g).cut_into n refl in
    let few = cuts_few (is_uniform n g) n (whole n) in
    let most : 4 ^ n ≤ 4 ^ 12 = pow-le-pow_right (let p : 0 < 4 = omega arith in p) le in
    omega arith
