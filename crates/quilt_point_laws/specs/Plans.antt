-- What a put and a del change, from a block and the list of the other points in it.
use Rattle.std.specs.Prelude.{ℕ, nat_lt, List, [], ◌∷◌, length, ◌==◌, if◌then◌else◌}
use Rattle.quilt_types.specs.declared.plane.Block.{Block}
use Rattle.quilt_types.specs.declared.plane.Pixel.{Pixel}
use Rattle.quilt_types.specs.Facts.{Fact, HoldsPoint, HoldsNoPoint}
use Rattle.quilt_point_laws.specs.Spreading.{held_facts, spread}

-- the block's facts that only hold without the point
abbrev pub without_it : ℕ → Block → List (Pixel × ℕ) → List Fact
without_it capacity c held =
    if nat_lt (length held) capacity
    then (if length held == 0 then HoldsNoPoint c ∷ [] else [])
    else held_facts c held

-- the facts on the block and in it that only hold with the point; k: the level of its side
abbrev pub with_it : ℕ → ℕ → Block → List (Pixel × ℕ) → Pixel → ℕ → List Fact
with_it capacity k c held p label =
    if nat_lt (length held) capacity
    then HoldsPoint c p label ∷ []
    else spread capacity k c ((p, label) ∷ held)
