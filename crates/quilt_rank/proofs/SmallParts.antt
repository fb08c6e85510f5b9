-- The parts of a layer are small: its level is at most 12.
use Rattle.std.proofs.Common.{ℕ, ◌≤◌}
use Rattle.quilt_types.specs.declared.plane.Block.{Block}
use Rattle.quilt_near.specs.Parts.{PartFits}
use Rattle.quilt_near.specs.declared.part.Part.{Part}
use Rattle.quilt_near.specs.declared.part.Part.TheVariants.{Split, Leaf}
use Rattle.quilt_near.proofs.Ends.{ends_small}
use Rattle.quilt_rank.specs.Opened.{IsSmallPart}

pub small_part : (n : ℕ) (b : Block) (part : Part) → n ≤ 12 → PartFits n b part → IsSmallPart b part
small_part n b Split le fits = fits
small_part n b (Leaf list) le fits = ends_small n list le fits
