-- A block from its code and depth.
use Rattle.std.proofs.Common.{◌≡◌, ℕ, ◌-◌, ◌*◌, ◌%◌, ◌^◌, ◌<◌, ◌≤◌, inl, inr, sym, ◌∙◌, ap, subst, arith, one-mul, true, nat_lt, ltb-true}
use Rattle.std.proofs.Math.Nat.{pow-le-pow_right, mod-eq_of_lt}
use Rattle.std.proofs.lemmas.Nat.{pow_pos}
use Rattle.std.proofs.lemmas.Nat.Bits.{bit_at-trailing_zeros, bit_at-pow_other}
use Rattle.std.proofs.lemmas.Bool.{cases_lt, and_parts}
use Rattle.std.specs.Int.{w16}
use Rattle.std.specs.Int.Count.{count_trailing_zeros}
use Rattle.quilt_types.specs.declared.plane.Pixel.{Pixel}
use Rattle.quilt_types.specs.declared.plane.Block.{Block}
use Rattle.quilt_types.specs.Plane.{IsBlock, is_pixel}
use Rattle.quilt_types.specs.Codes.{code, depth}
use Rattle.quilt_types.proofs.CodeLaws.{code_below, code_alone, depth_is}
use Rattle.quilt_record.specs.declared.key.Key.{Key}
use Rattle.quilt_record.specs.Blocks.{IsBlockOf}

power_most : (k : ℕ) → k ≤ 12 → 2 ^ k ≤ 4096
power_most k h = pow-le-pow_right {n = 2} (let some : 0 < 2 = omega arith in some) h

pub in_square : (n : ℕ) (b : Block) → n ≤ 12 → IsBlock n b → (b.x < 4096) × (b.y < 4096)
in_square n b h k =
    let most = power_most n h in
    (omega (arith, k.in_x, most), omega (arith, k.in_y, most))

-- a pixel of the square has coordinates below 4096
pub pixel_below : (n : ℕ) (p : Pixel) → n ≤ 12 → is_pixel n p ≡ true → (p.x < 4096) × (p.y < 4096)
pixel_below n p h e =
    let most = power_most n h in
    let both = and_parts (nat_lt p.x (2 ^ n)) (nat_lt p.y (2 ^ n)) e in
    let in_x = ltb-true p.x (2 ^ n) both.0 in
    let in_y = ltb-true p.y (2 ^ n) both.1 in
    (omega arith, omega arith)

trailing_power : (k : ℕ) → k ≤ 12 → count_trailing_zeros 16 (2 ^ k) ≡ k
trailing_power k h =
    let most = power_most k h in
    let small : 2 ^ k < 65536 = omega (arith, most) in
    let bits = bit_at-trailing_zeros w16 (2 ^ k) (pow_pos k) small in
    elim (cases_lt (count_trailing_zeros 16 (2 ^ k)) k) [
      | inl lt ↦ absurd (one_zero (sym bits.1 ∙ bit_at-pow_other k (count_trailing_zeros 16 (2 ^ k)) (λ e. omega (arith, e, lt))))
      | inr ge ↦ elim (cases_lt k (count_trailing_zeros 16 (2 ^ k))) [
        | inl lt ↦ absurd (one_zero (sym bits.1 ∙ bit_at-pow_other k (count_trailing_zeros 16 (2 ^ k)) (λ e. omega (arith, e, lt))))
        | inr le ↦ omega (arith, ge, le)
      ]
    ]
  where
    one_zero : ◌≡◌ {A = ℕ} 1 0 → ⊥
    one_zero e = omega (arith, e)

pub side_zeros : (n : ℕ) (b : Block) → n ≤ 12 → IsBlock n b → (count_trailing_zeros 16 b.side ≤ n) × (n - count_trailing_zeros 16 b.side ≡ depth n b)
side_zeros n b h k =
    let level : count_trailing_zeros 16 b.side ≡ k.level = ap (count_trailing_zeros 16) k.size ∙ trailing_power k.level (omega (arith, k.low, h)) in
    (omega (arith, level, k.low), ap (λ m. n - m) level ∙ sym (depth_is n b k))

pub shifted : (k : ℕ) → k ≤ 12 → 1 * 2 ^ k % 65536 ≡ 2 ^ k
shifted k h =
    let most = power_most k h in
    let small : 2 ^ k < 65536 = omega (arith, most) in
    ap (λ n. n % 65536) (one-mul (2 ^ k)) ∙ mod-eq_of_lt small

-- the numbers of a key that names a block
pub key_of_block : (n : ℕ) (k : Key) (b : Block) → n ≤ 12 → IsBlockOf n k b → (k.depth ≤ n) × (k.code < 16777216)
key_of_block n k b h o =
    let d = o.depth ∙ depth_is n b o.block in
    (omega (arith, d), subst (λ c. c < 16777216) (sym o.code) (code_below b.x b.y))

-- the only block that a key names
pub named_block : (n : ℕ) (k : Key) (b : Block) (p : Pixel) → n ≤ 12 → IsBlockOf n k b → p.x < 4096 → p.y < 4096 → code p.x p.y ≡ k.code
    → record { y = p.y; x = p.x; side = 1 * 2 ^ (n - k.depth) % 65536 } ≡ b
named_block n k b p h o in_x in_y same =
    let small = in_square n b h o.block in
    let low = o.block.low in
    let level : n - k.depth ≡ o.block.level = omega (arith, o.depth ∙ depth_is n b o.block, low) in
    let side : 1 * 2 ^ (n - k.depth) % 65536 ≡ b.side = ap (λ m. 1 * 2 ^ m % 65536) level ∙ shifted o.block.level (omega (arith, low, h)) ∙ sym o.block.size in
    let corner : p ≡ record { y = b.y; x = b.x } = code_alone p (record { y = b.y; x = b.x }) in_x in_y small.0 small.1 (same ∙ o.code) in
    λ i. record { y = (corner i).y; x = (corner i).x; side = side i }

-- the block that was read
pub read_block : (n : ℕ) (k : Key) (p : Pixel) → n ≤ 12 → k.depth ≤ n → code p.x p.y ≡ k.code
    → IsBlock n (record { y = p.y; x = p.x; side = 1 * 2 ^ (n - k.depth) % 65536 })
    → IsBlockOf n k (record { y = p.y; x = p.x; side = 1 * 2 ^ (n - k.depth) % 65536 })
read_block n k p h low same block =
    let b : Block = record { y = p.y; x = p.x; side = 1 * 2 ^ (n - k.depth) % 65536 } in
    let own : IsBlock n b = record {
      level = n - k.depth;
      low = omega arith;
      size = shifted (n - k.depth) (omega (arith, h));
      on_x = block.on_x;
      on_y = block.on_y;
      in_x = block.in_x;
      in_y = block.in_y;
    } in
    record {
      block = own;
      code = sym same;
      depth = (let e : k.depth ≡ n - (n - k.depth) = omega arith in e) ∙ sym (depth_is n b own);
    }
