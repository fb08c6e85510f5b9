use Rattle.std.proofs.Common.{◌≡◌, ℕ, ◌+◌, ◌≤◌, length, take}
use Rattle.quilt_types.specs.declared.plane.Pixel.{Pixel}
use Rattle.quilt_types.specs.Plane.{Holds}
use Rattle.quilt_types.specs.Layers.{Grid, colour_at}
use Rattle.quilt_loc.specs.Codes.{code_from, code_to}
use Rattle.quilt_blocks.specs.Walk.{pixel_count}
use Rattle.quilt_region.specs.Painting.{HasColours}
use Rattle.quilt_region.specs.Windows.{IsCutOut, leaves_within, records_within}
use Rattle.quilt_region.proofs.leaf_records.put_records.Given as goal

abbrev pub invariant-loop-r : goal.invariant-loop-r
invariant-loop-r l = record {
  level : l.maker.level ≡ l.level;
  long : l.end ≡ length l.maker.colours;
  low : code_from l.fn.b ≤ l.end;
  high : l.end ≤ code_to l.fn.b;
  made : (g : Grid) (f : Pixel → ℕ) → l.records ≡ records_within l.level l.layer g l.fn.b
      → ((p : Pixel) → Holds l.fn.b p → f p ≡ colour_at l.level g p) → HasColours l.level f l.initial.maker.colours → HasColours l.level f l.maker.colours;
  far : (g : Grid) → l.records ≡ records_within l.level l.layer g l.fn.b → IsCutOut l.level g l.fn.b
      → l.end ≡ code_from l.fn.b + pixel_count (take l.r-index (leaves_within l.level g l.fn.b));
}
