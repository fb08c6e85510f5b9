-- Points in a block, spread over its quarters until at most so many are together.
use Rattle.std.specs.Prelude.{ℕ, zero, suc, nat_le, List, map, filter, flat_map, length, if◌then◌else◌}
use Rattle.quilt_types.specs.declared.plane.Block.{Block}
use Rattle.quilt_types.specs.declared.plane.Pixel.{Pixel}
use Rattle.quilt_types.specs.Plane.{in_block, quarters_of}
use Rattle.quilt_types.specs.Facts.{Fact, HoldsPoint, HoldsNoPoint, or_none}

-- the facts of a block with these points
abbrev pub held_facts : Block → List (Pixel × ℕ) → List Fact
held_facts b held = or_none (HoldsNoPoint b) (map (λ e. HoldsPoint b e.0 e.1) held)

-- those of a block with these points or, where they are too many, of its quarters; k: the level of its side
abbrev pub spread : ℕ → ℕ → Block → List (Pixel × ℕ) → List Fact
spread capacity zero b held = held_facts b held
spread capacity (suc k) b held =
    if nat_le (length held) capacity
    then held_facts b held
    else flat_map (λ r. spread capacity k r (filter (λ e. in_block r e.0) held)) (quarters_of b)
