-- Rows of a tile out of its cells.
use Rattle.std.proofs.Common.{◌≡◌, ℕ, ◌+◌, ◌-◌, ◌*◌, ◌<◌, ◌≤◌, List, get_or, ⊎_elim, sym, ◌∙◌, ap, ap₂, arith}
use Rattle.std.proofs.Math.Nat.{mul-le-mul_right}
use Rattle.std.proofs.lemmas.Bool.{cases_lt}
use Rattle.quilt_types.specs.declared.plane.Pixel.{Pixel}
use Rattle.quilt_types.specs.declared.plane.Block.{Block}
use Rattle.quilt_raster.specs.Painting.{in_cells}

-- a row of a square that lies in a tile of width w ends in the tile
pub tile_room : (w y x dy k : ℕ) → y + dy < w → x + k ≤ w → y * w + x + dy * w + k ≤ w * w
tile_room w y x dy k lt le =
    let rows : (y + dy + 1) * w ≤ w * w = mul-le-mul_right w (let more : y + dy + 1 ≤ w = omega arith in more) in
    omega arith

-- rows of one colour, and one more: the block begins in the tile, which has w columns, at row y and column x
pub one_row_more : (cells : List ℕ) (tile b : Block) (w y x dy c : ℕ) → w ≡ tile.side → b.y ≡ tile.y + y → b.x ≡ tile.x + x
    → ((p : Pixel) → b.x ≤ p.x → p.x < b.x + b.side → b.y ≤ p.y → p.y < b.y + dy → in_cells cells tile p ≡ c)
    → ((k : ℕ) → y * w + x + dy * w ≤ k → k < y * w + x + dy * w + b.side → get_or cells k 0 ≡ c)
    → (p : Pixel) → b.x ≤ p.x → p.x < b.x + b.side → b.y ≤ p.y → p.y < b.y + (dy + 1) → in_cells cells tile p ≡ c
one_row_more cells tile b w y x dy c ew ey ex above row p l r t d =
    ⊎_elim (above p l r t)
    (λ last.
    let rows : p.y - tile.y ≡ y + dy = omega arith in
    let at : (p.y - tile.y) * tile.side + (p.x - tile.x) ≡ (y + dy) * w + (p.x - tile.x) =
    ap₂ (λ i j. i * j + (p.x - tile.x)) rows (sym ew) in
    ap (λ k. get_or cells k 0) at ∙ row ((y + dy) * w + (p.x - tile.x)) (omega arith) (omega arith)) (cases_lt p.y (b.y + dy))
