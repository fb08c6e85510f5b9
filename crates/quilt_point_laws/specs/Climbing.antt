-- Up from a block while its parent passes a test.
use Rattle.std.specs.Prelude.{ℕ, zero, suc, Bool, if◌then◌else◌}
use Rattle.quilt_types.specs.declared.plane.Block.{Block}
use Rattle.quilt_types.specs.Plane.{parent_of}

-- at most so many levels up
abbrev pub climb : (Block → Bool) → ℕ → Block → Block
climb fits zero b = b
climb fits (suc d) b = if fits (parent_of b) then climb fits d (parent_of b) else b
