-- Which pixels are within a distance of blocks, by the larger of the distances in x and in y.
use Rattle.std.specs.Prelude.{ℕ, ◌+◌, Bool, ◌&&◌, not, nat_le, nat_lt, ◌==◌, List, map, filter, if◌then◌else◌}
use Rattle.std.specs.List.{list_any}
use Rattle.quilt_types.specs.declared.plane.Pixel.{Pixel}
use Rattle.quilt_types.specs.declared.plane.Block.{Block}

-- the pixel is within r of the block: it lies in the block grown by r on each side
abbrev pub reaches : ℕ → Pixel → Block → Bool
reaches r p b = nat_le b.x (p.x + r) && nat_lt p.x (b.x + b.side + r) && nat_le b.y (p.y + r) && nat_lt p.y (b.y + b.side + r)

-- a pixel of the square is within r of the block
abbrev pub reaches_some : ℕ → Block → Block → Bool
reaches_some r square b = nat_lt b.x (square.x + square.side + r) && nat_lt square.x (b.x + b.side + r) && nat_lt b.y (square.y + square.side + r)
    && nat_lt square.y (b.y + b.side + r)

-- all pixels of the square are within r of the block
abbrev pub reaches_all : ℕ → Block → Block → Bool
reaches_all r square b = nat_le b.x (square.x + r) && nat_le (square.x + square.side) (b.x + b.side + r) && nat_le b.y (square.y + r)
    && nat_le (square.y + square.side) (b.y + b.side + r)

-- 1 where the pixel is within r of one of the blocks, and else 0
abbrev pub within_reach : ℕ → List Block → Pixel → ℕ
within_reach r blocks p = if list_any (reaches r p) blocks then 1 else 0

-- the colour is not that of the background
abbrev pub is_foreground : Block × ℕ → Bool
is_foreground e = not (e.1 == 0)

-- the blocks of those leaves
abbrev pub blocks_with_colour : List (Block × ℕ) → List Block
blocks_with_colour es = map (λ e. e.0) (filter is_foreground es)
