-- Up from a passing block while the parent passes: the maximal block around each of its pixels.
use Rattle.std.proofs.Common.{◌≡◌, ℕ, zero, suc, ◌+◌, ◌^◌, ◌<◌, Bool, true, false, cond, refl, ◌∙◌, ap, arith, pow-suc}
use Rattle.std.proofs.lemmas.Bool.{both_ways}
use Rattle.std.proofs.lemmas.Nat.{pow_below}
use Rattle.quilt_types.specs.declared.plane.Block.{Block}
use Rattle.quilt_types.specs.Plane.{parent_of, IsBlock, Within}
use Rattle.quilt_point_laws.specs.Climbing.{climb}
use Rattle.quilt_loc.proofs.Nesting.{Within-trans, IsBlock-parent_of, Within-parent_of}
use Rattle.quilt_blocks.proofs.Maximal.{IsMaximal, Within-self}

-- the last passing block on the way up
pub record IsTop (n : ℕ) (fits : Block → Bool) (b c : Block) : Type 0 where
  pub maximal : IsMaximal n fits c
  pub within : Within b c

module _ (n : ℕ) (fits : Block → Bool) where
  step : (d k : ℕ) (b : Block) → IsBlock n b → b.side ≡ 2 ^ k → k + suc d ≡ n → fits b ≡ true
      → ((c : Block) → IsBlock n c → c.side ≡ 2 ^ suc k → fits c ≡ true → IsTop n fits c (climb fits d c))
      → (t : Bool) → fits (parent_of b) ≡ t → IsTop n fits b (cond t (climb fits d (parent_of b)) b)
  step d k b hb s e u law true t =
      let room : 2 ^ k < 2 ^ n = pow_below k n (omega arith) in
      let p2 = pow-suc 2 k in
      let lt : b.side < 2 ^ n = omega arith in
      let top = law (parent_of b) (IsBlock-parent_of n b hb lt) (omega arith) t in
      record { maximal = top.maximal; within = Within-trans b (parent_of b) (climb fits d (parent_of b)) (Within-parent_of n b hb lt) top.within }
  step d k b hb s e u law false f =
      record { maximal = record { block = hb; passes = u; last = λ lt t. both_ways (fits (parent_of b)) f t }; within = Within-self b }

  pub climb_is : (d k : ℕ) (b : Block) → IsBlock n b → b.side ≡ 2 ^ k → k + d ≡ n → fits b ≡ true → IsTop n fits b (climb fits d b)
  climb_is zero k b hb s e u =
      let same : k ≡ n = omega arith in
      let top : b.side ≡ 2 ^ n = s ∙ ap (λ i. 2 ^ i) same in
      record { maximal = record { block = hb; passes = u; last = λ lt t. omega arith }; within = Within-self b }
  climb_is (suc d) k b hb s e u =
      step d k b hb s e u (λ c hc sc uc. climb_is d (suc k) c hc sc (omega arith) uc) (fits (parent_of b)) refl
