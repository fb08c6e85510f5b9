-- A window of a grid as lines of hexadecimal digits.
use Rattle.std.specs.Prelude.{ℕ, ◌+◌, ◌/◌, ◌%◌, nat_lt, ◌==◌, List, [], ◌∷◌, map, flat_map, if◌then◌else◌}
use Rattle.quilt_types.specs.declared.plane.Window.{Window}
use Rattle.quilt_types.specs.Plane.{below}
use Rattle.quilt_types.specs.Layers.{Grid, colour_at}

-- a digit of base 16
abbrev pub digit_of_colour : ℕ → ℕ
digit_of_colour d = if nat_lt d 10 then d + 48 else d + 87

-- two digits in format 1, and four in format 2
unfoldable pub colour_digits : ℕ → ℕ → List ℕ
colour_digits f c =
    if f == 1 then digit_of_colour (c / 16) ∷ digit_of_colour (c % 16) ∷ []
    else digit_of_colour (c / 4096) ∷ digit_of_colour (c / 256 % 16) ∷ digit_of_colour (c / 16 % 16) ∷ digit_of_colour (c % 16) ∷ []

-- the colours of one row of the window, from the left
unfoldable pub window_row : ℕ → ℕ → Grid → Window → ℕ → List ℕ
window_row f n g w dy =
    flat_map (λ dx. colour_digits f (colour_at n g (record { x = w.x + dx; y = w.y + dy }))) (below w.w)

-- what a format writes of a colour: its low byte in format 1, and all of it in format 2
unfoldable pub written_in : ℕ → ℕ → ℕ
written_in f c = if f == 1 then c % 256 else c

-- the rows of the window from above, each colour as the format writes it
unfoldable pub shown : ℕ → ℕ → Grid → Window → List (List ℕ)
shown f n g w = map (window_row f n (map (written_in f) g) w) (below w.h)
