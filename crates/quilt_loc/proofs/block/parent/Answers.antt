use Rattle.std.proofs.Common.{ℕ, ◌*◌, ◌<◌, ◌≤◌, arith}
use Rattle.quilt_types.specs.Plane.{side, whole, IsBlock}
use Rattle.quilt_types.specs.declared.plane.Block.{Block}
use Rattle.quilt_loc.specs.Codes.{IsSide}
use Rattle.quilt_loc.proofs.Nesting.{twice_le, IsBlock-parent_of}
use Rattle.quilt_loc.proofs.Quartered.{IsBlock-whole, side_le}
use Rattle.quilt_loc.proofs.Blocks.{side_most}
use Rattle.quilt_loc.proofs.block.parent.Goals as goal

pub overflow_mul-twice : goal.overflow_mul-twice
overflow_mul-twice c =
    let n = c.args.level in
    let b = c.args.b in
    let top = side_le n b c.requires.valid in
    let most = side_most n c.requires.most in
    let twice = twice_le n b (whole n) c.requires.valid (IsBlock-whole n) in
    omega arith

-- the side of a parent
twice_side : (n : ℕ) (b : Block) → n ≤ 12 → IsBlock n b → b.side < side n → IsSide (2 * b.side)
twice_side n b most h lt =
    let p = IsBlock-parent_of n b h lt in
    let le = p.low in
    record { level = p.level; low = omega arith; size = p.size }

pub start-requires : goal.start-requires
start-requires c =
    let top = side_le c.args.level c.args.b c.requires.valid in
    twice_side c.args.level c.args.b c.requires.most c.requires.valid (omega arith)

pub start-requires-2 : goal.start-requires-2
start-requires-2 c =
    let top = side_le c.args.level c.args.b c.requires.valid in
    twice_side c.args.level c.args.b c.requires.most c.requires.valid (omega arith)
