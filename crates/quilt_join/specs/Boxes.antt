-- Blocks of one side by column and row, and which of them the box round a segment touches.
use Rattle.std.specs.Prelude.{◌≡◌, ◌≤◌, ℕ, ◌+◌, ◌-◌, ◌*◌, ◌/◌, ◌%◌, min, max}
use Rattle.quilt_types.specs.declared.plane.Seg.{Seg}
use Rattle.quilt_join.specs.declared.span.Span.{Span}

-- the columns and rows of blocks of side w that the box round the segment touches
abbrev pub span_at : ℕ → Seg → Span
span_at w s = record { left = min s.x1 s.x2 / w; right = max s.x1 s.x2 / w; top = min s.y1 s.y2 / w; bottom = max s.y1 s.y2 / w }

-- the columns and the rows are in order
pub record IsBox (p : Span) : Type 0 where
  pub columns : p.left ≤ p.right
  pub rows : p.top ≤ p.bottom

-- how many columns it has
abbrev pub width : Span → ℕ
width p = p.right - p.left + 1

-- how many blocks it has
abbrev pub count : Span → ℕ
count p = width p * (p.bottom - p.top + 1)

-- the number of its block at this place, where a row of the square has this many blocks
abbrev pub number_at : Span → ℕ → ℕ → ℕ
number_at p columns i = (p.top + i / width p) * columns + (p.left + i % width p)

-- the block with this number is one of those of the span
pub record IsInSpan (p : Span) (columns n : ℕ) : Type 0 where
  pub column : ℕ
  pub row : ℕ
  pub left : p.left ≤ column
  pub right : column ≤ p.right
  pub top : p.top ≤ row
  pub bottom : row ≤ p.bottom
  pub number : n ≡ row * columns + column
