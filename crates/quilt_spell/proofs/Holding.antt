-- Each pixel is held by a maximal block of a test that its own block of side 1 passes.
use Rattle.std.proofs.Common.{◌≡◌, ℕ, zero, suc, ◌+◌, ◌^◌, ◌<◌, Bool, true, not, ◌||◌, sym, ◌∙◌, ap, arith, ⊎_elim, Contains, pow-suc, eq-eqb}
use Rattle.std.proofs.lemmas.Bool.{and_from, or_left, or_right, cases_Bool}
use Rattle.std.proofs.lemmas.Nat.{pow_below}
use Rattle.quilt_types.specs.declared.plane.Pixel.{Pixel}
use Rattle.quilt_types.specs.declared.plane.Block.{Block}
use Rattle.quilt_types.specs.Plane.{side, blocks, parent_of, Holds, IsBlock}
use Rattle.quilt_types.specs.Quadtrees.{is_whole, is_maximal, maximal_blocks}
use Rattle.quilt_loc.proofs.Members.{Contains-filter}
use Rattle.quilt_loc.proofs.Around.{IsBlock-around, Holds-around}
use Rattle.quilt_loc.proofs.Blocks.{Contains-blocks}
use Rattle.quilt_loc.proofs.Nesting.{around, Within-holds, same_block_from, IsBlock-parent_of, Within-parent_of}

pub record HeldBy (n : ℕ) (fits : Block → Bool) (p : Pixel) : Type 0 where
  pub block : Block
  pub maximal : Contains (maximal_blocks n fits) block
  pub holds : Holds block p

module _ (n : ℕ) (fits : Block → Bool) (p : Pixel) (hx : p.x < 2 ^ n) (hy : p.y < 2 ^ n) where
  maximal : (b : Block) → IsBlock n b → fits b ≡ true → (is_whole n b || not (fits (parent_of b))) ≡ true → Contains (maximal_blocks n fits) b
  unfolding maximal_blocks
  maximal b h t l = Contains-filter (is_maximal n fits) (blocks n) b (Contains-blocks n b h) (and_from (fits b) (is_whole n b || not (fits (parent_of b))) t l)

  up_from : (d k : ℕ) → k + d ≡ n → fits (around (2 ^ k) p) ≡ true → HeldBy n fits p
  up_from zero k e t =
      let b = around (2 ^ k) p in
      let whole : b.side ≡ side n = ap (λ i. 2 ^ i) (let z : k ≡ n = omega arith in z) in
      record {
        block = b;
        maximal = maximal b (IsBlock-around n k p (omega arith) hx hy) t
            (or_left (is_whole n b) (not (fits (parent_of b))) (eq-eqb b.side (side n) whole));
        holds = Holds-around k p;
      }
  up_from (suc d) k e t =
      let b = around (2 ^ k) p in
      let hb = IsBlock-around n k p (omega arith) hx hy in
      let up = around (2 ^ suc k) p in
      let hu = IsBlock-around n (suc k) p (omega arith) hx hy in
      let twice = pow-suc 2 k in
      let lt : b.side < 2 ^ n = pow_below k n (omega arith) in
      let is : parent_of b ≡ up =
      same_block_from n (parent_of b) up p (IsBlock-parent_of n b hb lt) hu (omega arith)
      (Within-holds b (parent_of b) p (Within-parent_of n b hb lt) (Holds-around k p)) (Holds-around (suc k) p) in
      ⊎_elim
      (λ passes. up_from d (suc k) (omega arith) (ap fits (sym is) ∙ passes))
      (λ fails. record { block = b; maximal = maximal b hb t (or_right (is_whole n b) (not (fits (parent_of b))) (ap not fails)); holds = Holds-around k p })
      (cases_Bool (fits (parent_of b)))

  pub held : fits (around (2 ^ 0) p) ≡ true → HeldBy n fits p
  held t = up_from n 0 (omega arith) t
