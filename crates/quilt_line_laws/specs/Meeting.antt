-- What a segment meets of a block and of its quarters.
use Rattle.std.specs.Prelude.{◌≡◌, ◌↔◌, ℕ, ◌<◌, true, Contains}
use Rattle.quilt_types.specs.declared.plane.Block.{Block}
use Rattle.quilt_types.specs.declared.plane.Seg.{Seg}
use Rattle.quilt_types.specs.Plane.{quarters_of, IsBlock, Within, Holds}
use Rattle.quilt_types.specs.Segments.{square, meets}

-- A segment meets a block exactly where it meets one of its quarters.
abbrev pub QuarterLaw : Type 0
QuarterLaw =
    (n : ℕ) (s : Seg) (b : Block) → IsBlock n b → 1 < b.side
    → (meets s (square b) ≡ true) ↔ ((q : Block) × Contains (quarters_of b) q × (meets s (square q) ≡ true))

-- What it meets of a block it meets of each block around it.
abbrev pub WithinLaw : Type 0
WithinLaw = (s : Seg) (a b : Block) → Within a b → meets s (square a) ≡ true → meets s (square b) ≡ true

-- It meets each block that holds one of its ends, and so the whole square.
abbrev pub EndLaw : Type 0
EndLaw =
    (s : Seg) (b : Block)
    → (Holds b (record { x = s.x1; y = s.y1 }) → meets s (square b) ≡ true) × (Holds b (record { x = s.x2; y = s.y2 }) → meets s (square b) ≡ true)
