-- A window of one pixel, and the leaf that holds it.
use Rattle.std.proofs.Common.{◌≡◌, ℕ, ◌^◌, ◌<◌, ◌≤◌, List, [], ◌∷◌, length, map, refl, ap, ⊎_elim, Contains, arith}
use Rattle.std.proofs.Math.Nat.{pow-le-pow_right}
use Rattle.quilt_types.specs.declared.plane.Block.{Block}
use Rattle.quilt_types.specs.declared.plane.Window.{Window}
use Rattle.quilt_types.specs.Plane.{Holds}
use Rattle.quilt_types.specs.Layers.{Grid}
use Rattle.quilt_types.specs.Quadtrees.{leaves}
use Rattle.quilt_loc.proofs.Members.{Contains-nil, Contains-cons_cases}
use Rattle.quilt_loc.proofs.Intervals.{code_to_is}
use Rattle.quilt_blocks.proofs.Cuts.{leaf_is}
use Rattle.quilt_spell.specs.OfLayer.{leaf_record}
use Rattle.quilt_region.specs.Windows.{HoldsWindow, leaves_within, records_within}
use Rattle.quilt_region.proofs.Nearby.{one_within}
use Rattle.quilt_region.proofs.Within.{within_at}

-- ---- the records within a leaf
one_list : {X : Type 0} (xs : List X) (x : X) → length xs ≤ 1 → Contains xs x → xs ≡ x ∷ []
one_list [] x le c = absurd (Contains-nil x c)
one_list (y ∷ []) x le c = ⊎_elim (λ e. ap (λ z. z ∷ []) e) (λ no. absurd (Contains-nil x no)) (Contains-cons_cases y [] x c)
one_list (y ∷ z ∷ zs) x le c = absurd (omega arith)

pub leaf_rows : (n layer : ℕ) (g : Grid) (e : Block × ℕ) → n ≤ 12 → Contains (leaves n g) e → records_within n layer g e.0 ≡ leaf_record n layer e ∷ []
unfolding records_within
leaf_rows n layer g e le c =
    let he = (leaf_is n g e c).maximal.block in
    let to = code_to_is n e.0 he in
    let some : 4 ^ 0 ≤ 4 ^ he.level = pow-le-pow_right {n = 4} (let four : 0 < 4 = omega arith in four) (let least : 0 ≤ he.level = omega arith in least) in
    let one : 4 ^ 0 ≡ 1 = refl in
    ap (map (leaf_record n layer)) (one_list (leaves_within n g e.0) e (one_within n g le e c)
    (within_at n g e.0 le he e c (omega arith) (omega arith)))

-- the window of one pixel lies in a block that holds it
pub pixel_in_block : (b : Block) (w : Window) → w.w ≡ 1 → w.h ≡ 1 → Holds b (record { x = w.x; y = w.y }) → HoldsWindow b w
pixel_in_block b w wide high h =
    let l = h.left in
    let r = h.right in
    let t = h.top in
    let d = h.bottom in
    record { left = omega arith; right = omega arith; top = omega arith; bottom = omega arith }
