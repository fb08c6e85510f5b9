-- A map is finished once all its pixels are painted.
use Rattle.std.proofs.Common.{◌≡◌, ℕ, ◌^◌, ◌≤◌, length, ◌∙◌, ap}
use Rattle.quilt_types.specs.declared.plane.Pixel.{Pixel}
use Rattle.quilt_types.specs.Algebra.{grid_of}
use Rattle.quilt_blocks.specs.Painting.{Painted, grid_by_code}
use Rattle.quilt_blocks.specs.Raster.{Raster}
use Rattle.quilt_blocks.proofs.Painting.{Paints, Paints-all}

pub finished : (n : ℕ) (f : Pixel → ℕ) (m : Painted) (r : Raster) → n ≤ 12 → m.level ≡ n → length m.colours ≡ 4 ^ n → Paints n f m.colours
    → r.level ≡ m.level → r.grid ≡ grid_by_code m.level m.colours → r ≡ record { level = n; grid = grid_of n f }
finished n f m r most level end paints is_level is_grid =
    let grid = is_grid ∙ ap (λ (k : ℕ). grid_by_code k m.colours) level ∙ Paints-all n f m.colours most end paints in
    λ i. record { level = (is_level ∙ level) i; grid = grid i }
