-- The leaf of a grid that has the code of a pixel holds the pixel.
use Rattle.std.proofs.Common.{ℕ, ◌<◌, ◌≤◌, Contains, arith}
use Rattle.quilt_types.specs.declared.plane.Pixel.{Pixel}
use Rattle.quilt_types.specs.declared.plane.Block.{Block}
use Rattle.quilt_types.specs.Plane.{side, Holds}
use Rattle.quilt_types.specs.Layers.{Grid}
use Rattle.quilt_types.specs.Quadtrees.{leaves}
use Rattle.quilt_loc.specs.Codes.{code_at, code_from, code_to}
use Rattle.quilt_loc.proofs.Blocks.{side_most}
use Rattle.quilt_loc.proofs.Intervals.{held_code}
use Rattle.quilt_blocks.specs.Cutting.{leaves_by_code}
use Rattle.quilt_blocks.proofs.Chains.{member_with}
use Rattle.quilt_blocks.proofs.Cuts.{IsLeaf, leaf_is, leaves_run, leaves_members}
use Rattle.quilt_blocks.proofs.Painting.{code_in}

-- the leaf that has the code of a pixel
pub record HasLeaf (n : ℕ) (g : Grid) (p : Pixel) (e : Block × ℕ) : Type 0 where
  pub member : Contains (leaves n g) e
  pub leaf : IsLeaf n g e
  pub from : code_from e.0 ≤ code_at p
  pub to : code_at p < code_to e.0
  pub holds : Holds e.0 p

-- each pixel of the square has one
pub leaf_at : (n : ℕ) (g : Grid) (p : Pixel) → n ≤ 12 → p.x < side n → p.y < side n → (e : Block × ℕ) × HasLeaf n g p e
leaf_at n g p le hx hy =
    let run = leaves_run n g le in
    let s = run.size in
    let i = code_in n p le hx hy in
    let w = member_with n 0 (leaves_by_code n g) (code_at p) run.follows (omega arith) (omega arith) in
    let c = (leaves_members n g w.0).0 w.1 in
    let leaf = leaf_is n g w.0 c in
    let b = leaf.maximal.block in
    let m = side_most n le in
    let bx = b.in_x in
    let by' = b.in_y in
    let held = held_code n w.0.0 p b le (omega arith) (omega arith) (omega arith) (omega arith) w.2 w.3 in
    (w.0, record { member = c; leaf = leaf; from = w.2; to = w.3; holds = held })
