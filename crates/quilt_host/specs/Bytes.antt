-- The bytes of a file, and its pages.
use Rattle.std.specs.Prelude.{ℕ, ◌+◌, ◌-◌, ◌*◌, List, ◌++◌, length, take, drop, map, replicate}
use Rattle.quilt_types.specs.Plane.{below}

-- the first bytes of the file, so many, where zeros stand behind its end
unfoldable pub padded : List ℕ → ℕ → List ℕ
padded file n = take n file ++ replicate (n - length file) 0

-- the file with these bytes at an offset
unfoldable pub patched : List ℕ → ℕ → List ℕ → List ℕ
patched file at bytes = padded file at ++ bytes ++ drop (at + length bytes) file

-- the page of this number, as far as the file has it
unfoldable pub page_at : List ℕ → ℕ → List ℕ
page_at file i = take 4096 (drop (i * 4096) file)

-- the first n pages
unfoldable pub file_pages : List ℕ → ℕ → List (List ℕ)
file_pages file n = map (page_at file) (below n)
