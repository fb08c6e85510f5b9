-- What map algebra and measures make of grids, pixel by pixel.
use Rattle.std.specs.Prelude.{ℕ, ◌+◌, ◌-◌, ◌&&◌, not, nat_le, ◌==◌, List, [], ◌∷◌, map, filter, count_by, sum_by, if◌then◌else◌, ℤ, pos, ◌-ℤ◌, nat_abs, int_le}
use Rattle.std.specs.Prelude.{int_lt, max, Option, Some, None}
use Rattle.std.specs.List.{list_any}
use Rattle.quilt_types.specs.declared.plane.Pixel.{Pixel}
use Rattle.quilt_types.specs.declared.plane.Window.{Window}
use Rattle.quilt_types.specs.Plane.{side, pixels, is_pixel, in_window}
use Rattle.quilt_types.specs.Layers.{Grid, colour_at}

-- the grid that has this colour at each pixel
unfoldable pub grid_of : ℕ → (Pixel → ℕ) → Grid
grid_of n colour = map colour (pixels n)

-- the grid of the level n whose pixels all have the colour c
abbrev pub uniform : ℕ → ℕ → Grid
uniform n c = grid_of n (λ p. c)

-- the grid with the colour c at the pixels of the window, and its own colour at the others
abbrev pub painted : ℕ → Grid → Window → ℕ → Grid
painted n a w c = grid_of n (λ p. if in_window w p then c else colour_at n a p)

-- the colour of a where that is not the background 0, else that of b
abbrev pub union : ℕ → Grid → Grid → Grid
union n a b = grid_of n (λ p. if colour_at n a p == 0 then colour_at n b p else colour_at n a p)

-- the colour of a where that of b is not the background 0, else 0
abbrev pub intersection : ℕ → Grid → Grid → Grid
intersection n a b = grid_of n (λ p. if colour_at n b p == 0 then 0 else colour_at n a p)

-- the colour of a where that of b is the background 0, else 0
abbrev pub difference : ℕ → Grid → Grid → Grid
difference n a b = grid_of n (λ p. if colour_at n b p == 0 then colour_at n a p else 0)

-- the new colour of the first pair whose old one it is, or the colour itself
abbrev pub recoloured_by : List (ℕ × ℕ) → ℕ → ℕ
recoloured_by [] c = c
recoloured_by (pair ∷ pairs) c = if pair.0 == c then pair.1 else recoloured_by pairs c

-- each colour of the grid replaced by the pairs of an old and a new colour, at all pixels at once
abbrev pub recoloured : ℕ → Grid → List (ℕ × ℕ) → Grid
recoloured n a pairs = grid_of n (λ p. recoloured_by pairs (colour_at n a p))

-- the colour of the grid inside of the window, and the background 0 elsewhere
abbrev pub cut_to : ℕ → Grid → Window → Grid
cut_to n a w = grid_of n (λ p. if in_window w p then colour_at n a p else 0)

-- a coordinate less a shift, where that is one
abbrev pub moved : ℕ → ℕ → ℤ → Option ℕ
moved n x dx =
    let from = pos x -ℤ dx in
    if int_le (pos 0) from && int_lt from (pos (side n)) then Some (nat_abs from) else None

-- the colour at x and y, and the background 0 where a coordinate is missing
abbrev pub colour_from : ℕ → Grid → Option ℕ → Option ℕ → ℕ
colour_from n a (Some x) (Some y) = colour_at n a (record { x = x; y = y })
colour_from n a (Some x) None = 0
colour_from n a None y = 0

-- the grid moved by dx to the right and dy down; pixels that come from outside of the square get the background 0
abbrev pub shifted : ℕ → Grid → ℤ → ℤ → Grid
shifted n a dx dy = grid_of n (λ p. colour_from n a (moved n p.x dx) (moved n p.y dy))

-- how far two numbers are from each other, whichever is greater
abbrev pub difference_of : ℕ → ℕ → ℕ
difference_of a b = nat_abs (pos a -ℤ pos b)

-- the moves of a king from one pixel to another
abbrev pub chessboard_distance : Pixel → Pixel → ℕ
chessboard_distance p q = max (difference_of p.x q.x) (difference_of p.y q.y)

-- 1 where a pixel of nonzero colour is within r, and else 0
abbrev pub buffered : ℕ → Grid → ℕ → Grid
buffered n a r =
    grid_of n (λ p. if list_any (λ q. not (colour_at n a q == 0) && nat_le (chessboard_distance p q) r) (pixels n) then 1 else 0)

-- how many pixels of the grid have the colour c
abbrev pub area : Grid → ℕ → ℕ
area a c = count_by (λ d. d == c) a

-- the pixels that share an edge with p, where they are in the square
abbrev pub neighbours : ℕ → Pixel → List Pixel
neighbours n p =
    filter (λ q. is_pixel n q && (difference_of p.x q.x + difference_of p.y q.y == 1)) (
    record { x = p.x - 1; y = p.y } ∷ record { x = p.x + 1; y = p.y }
    ∷ record { x = p.x; y = p.y - 1 } ∷ record { x = p.x; y = p.y + 1 } ∷ [])

-- the edges of a pixel behind which there is another colour or the outside
abbrev pub edges_of : ℕ → Grid → Pixel → ℕ
edges_of n a p = 4 - count_by (λ q. colour_at n a q == colour_at n a p) (neighbours n p)

-- how many unit edges lie between a pixel of the colour c and one of another colour, or the outside of the square
abbrev pub perimeter : ℕ → Grid → ℕ → ℕ
perimeter n a c = sum_by (edges_of n a) (filter (λ p. colour_at n a p == c) (pixels n))
