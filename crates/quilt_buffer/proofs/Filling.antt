-- A square that is filled by the blocks that reach it is filled by all of them.
use Rattle.std.proofs.Common.{◌≡◌, ℕ, zero, suc, ◌<◌, ◌≤◌, false, eqb, List, length, filter, ◌∙◌, ap, arith}
use Rattle.std.proofs.lemmas.Bool.{true≢false}
use Rattle.quilt_types.specs.declared.plane.Block.{Block}
use Rattle.quilt_types.specs.Plane.{IsBlock}
use Rattle.quilt_loc.specs.Codes.{code_from, code_to}
use Rattle.quilt_loc.proofs.Blocks.{side_most}
use Rattle.quilt_loc.proofs.Intervals.{held_code}
use Rattle.quilt_blocks.specs.Painting.{Painted}
use Rattle.quilt_blocks.specs.Adding.{AddsColours}
use Rattle.quilt_buffer.specs.Reach.{within_reach, reaches_some}
use Rattle.quilt_blocks.proofs.Adding.{Adds-change}
use Rattle.quilt_buffer.proofs.Reaching.{near_close}

pub positive : (k : ℕ) → eqb k 0 ≡ false → 0 < k
positive zero e = absurd (true≢false e)
positive (suc k) e = omega arith

pub filled_by_all : (n r : ℕ) (square : Block) (blocks close : List Block) (old new : Painted) → n ≤ 12 → IsBlock n square
    → code_from square ≡ length old.colours → close ≡ filter (reaches_some r square) blocks → AddsColours n (within_reach r close) (code_to square) old new
    → AddsColours n (within_reach r blocks) (code_to square) old new
filled_by_all n r square blocks close old new le h next is a =
    let m = side_most n le in
    let ix = h.in_x in
    let iy = h.in_y in
    Adds-change n (within_reach r close) (within_reach r blocks) (code_to square) old new
    (λ p hx hy low high.
    let held = held_code n square p h le (omega arith) (omega arith) (omega arith) (omega arith) (omega arith) high in
    ap (λ l. within_reach r l p) is ∙ near_close r square blocks p held) a
