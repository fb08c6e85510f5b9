-- Locational codes: the bits of both coordinates in turn.
use Rattle.std.specs.Prelude.{ℕ, zero, suc, ◌+◌, ◌-◌, ◌*◌, ◌/◌, ◌%◌, ◌==◌, find, unwrap_or}
use Rattle.quilt_types.specs.declared.plane.Pixel.{Pixel}
use Rattle.quilt_types.specs.declared.plane.Block.{Block}
use Rattle.quilt_types.specs.Plane.{side, below}

-- the code of the last k bits of each
unfoldable pub interleaved : ℕ → ℕ → ℕ → ℕ
interleaved zero x y = 0
interleaved (suc k) x y = x % 2 + 2 * (y % 2) + 4 * interleaved k (x / 2) (y / 2)

-- coordinates are below 4096
unfoldable pub code : ℕ → ℕ → ℕ
code x y = interleaved 12 x y

-- the code of a pixel
abbrev pub code_at : Pixel → ℕ
code_at p = code p.x p.y

-- the number of the first k even bits of a code
unfoldable pub gathered : ℕ → ℕ → ℕ
gathered zero c = 0
gathered (suc k) c = c % 2 + 2 * gathered k (c / 4)

-- the level less k, where the block's side is 2 ^ k
abbrev pub depth : ℕ → Block → ℕ
depth n b = unwrap_or (find (λ d. side (n - d) == b.side) (below (n + 1))) 0
