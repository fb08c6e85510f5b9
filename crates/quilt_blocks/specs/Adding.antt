-- Pixels that are put down after others, in the order of their codes.
use Rattle.std.specs.Prelude.{◌≡◌, ◌<◌, ◌≤◌, ℕ, length, slice_index}
use Rattle.quilt_types.specs.declared.plane.Pixel.{Pixel}
use Rattle.quilt_types.specs.Plane.{side}
use Rattle.quilt_loc.specs.Codes.{code_at}
use Rattle.quilt_blocks.specs.Painting.{Painted}

-- behind the old colours come those of the pixels with the codes up to this one, each as the function has it
pub record AddsColours (n : ℕ) (colour : Pixel → ℕ) (end : ℕ) (old new : Painted) : Type 0 where
  pub level : new.level ≡ old.level
  pub long : length new.colours ≡ end
  pub kept : (k : ℕ) → k < length old.colours → slice_index new.colours k ≡ slice_index old.colours k
  pub each : (p : Pixel) → p.x < side n → p.y < side n → length old.colours ≤ code_at p → code_at p < end → slice_index new.colours (code_at p) ≡ colour p
