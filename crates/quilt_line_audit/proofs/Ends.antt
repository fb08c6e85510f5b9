-- Where the pairs of the whole square end.
use Rattle.std.proofs.Common.{◌≡◌, ℕ, ◌≤◌, Bool, true, false, List, [], length, drop, refl, ap, subst, arith}
use Rattle.std.specs.Bool.{OnFalse}
use Rattle.std.proofs.lemmas.List.{length-drop}
use Rattle.quilt_types.specs.declared.plane.Block.{Block}
use Rattle.quilt_types.specs.declared.plane.Seg.{Seg}
use Rattle.quilt_types.specs.Plane.{side, whole}
use Rattle.quilt_line_audit.specs.declared.pair.Pair.{Pair}
use Rattle.quilt_line_audit.specs.Pairs.{BeginsWithPairs}
use Rattle.quilt_line_audit.proofs.Begins.{begins_once}

pub on_false : {P : Type 0} (b : Bool) → (b ≡ false → P) → OnFalse b P
on_false true f = tt
on_false false f = f refl

module _ (n : ℕ) (b : Block) (is : b ≡ whole n) (segs : List (ℕ × Seg)) (pairs : List Pair) (end : ℕ) (le : end ≤ length pairs)
    (some : (k : ℕ) → b.side ≡ side k → BeginsWithPairs segs k b pairs (drop end pairs)) where
  here : BeginsWithPairs segs n (whole n) pairs (drop end pairs)
  here = subst (λ (z : Block). BeginsWithPairs segs n z pairs (drop end pairs)) is (some n (ap (λ (z : Block). z.side) is))

  pub ends_there : BeginsWithPairs segs n (whole n) pairs [] → end ≡ length pairs
  ends_there h =
      let e = ap length (begins_once n (whole n) segs pairs (drop end pairs) [] refl here h) in
      let l = length-drop end pairs in
      omega arith
