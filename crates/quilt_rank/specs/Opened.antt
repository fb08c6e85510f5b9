-- What the opening of a block does to a search for the first k.
use Rattle.std.specs.Prelude.{◌≡◌, ℕ, ◌+◌, ◌<◌, ◌≤◌, List, ◌++◌, map, fold, All, Option, Result, Ok}
use Rattle.std.specs.List.Sorted.{IsPermutation}
use Rattle.quilt_types.specs.declared.plane.Block.{Block}
use Rattle.quilt_types.specs.declared.plane.Pixel.{Pixel}
use Rattle.quilt_types.specs.declared.stop.Stop.{Stop}
use Rattle.quilt_types.specs.Plane.{quarters_of}
use Rattle.quilt_types.specs.Fractions.{Fraction}
use Rattle.quilt_world.specs.Tale.{Goes}
use Rattle.quilt_near.specs.Choices.{placed_at}
use Rattle.quilt_near.specs.Lines.{Lines}
use Rattle.quilt_near.specs.Parts.{IsPart, PartFits, pages_for}
use Rattle.quilt_near.specs.declared.part.Part.{Part}
use Rattle.quilt_near.specs.declared.part.Part.TheVariants.{Split, Leaf}
use Rattle.quilt_rank.specs.Ranks.{with_ranked}

-- a block that is cut has quarters, and the segments of another have ends whose distances fit
abbrev pub IsSmallPart : Block → Part → Type 0
IsSmallPart b Split = 1 < b.side
IsSmallPart b (Leaf list) = All (λ e. (e.1.x1 < 8192) × (e.1.y1 < 8192) × (e.1.x2 < 8192) × (e.1.y2 < 8192)) list

-- what the opening of a block does to the queue and the first k so far
abbrev pub AfterRanking : Pixel → ℕ → Block → Part → List (ℕ × Block) → List (ℕ × Block) → List (ℕ × Fraction) → List (ℕ × Fraction) → Type 0
AfterRanking p k b Split old new was now = IsPermutation (map (placed_at p) (quarters_of b) ++ old) new × (now ≡ was)
AfterRanking p k b (Leaf list) old new was now = (new ≡ old) × (now ≡ fold (with_ranked p k) was list)

-- a look gave the part of its block
abbrev pub GivesPart : {S : Type 0} → (S → S → Result Part Stop → Type 0) → S → S → Type 0
GivesPart looked old new = (part : Part) × looked old new (Ok part)

-- a block was opened: what it was found to be, where the layer shows its lines, and what it cost
pub record IsBlockRanked (n : ℕ) (p : Pixel) (k : ℕ) (b : Block) (shown : Lines → Type 0) (old new : List (ℕ × Block)) (was now : List (ℕ × Fraction))
    (reads_old reads_new : Option ℕ) : Type 0 where
  pub part : Part
  pub found : (l : Lines) → shown l → IsPart l b part
  pub found_of : PartFits n b part
  pub after : AfterRanking p k b part old new was now
  pub reads : Goes (λ before after. after ≤ before + pages_for part) reads_old reads_new
