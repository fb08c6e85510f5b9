-- Why a search by blocks ends without an answer.
use Rattle.std.specs.Prelude.{◌≡◌, ◌⊎◌, Result, Ok, Err}
use Rattle.quilt_types.specs.declared.plane.Block.{Block}
use Rattle.quilt_types.specs.declared.stop.Stop.{Stop}
use Rattle.quilt_types.specs.declared.stop.Stop.TheVariants.{Memory}
use Rattle.quilt_near.specs.declared.part.Part.{Part}

-- A block was not opened: the look at it ended so, or it was answered and memory ran out for what came of it.
abbrev pub EndsLook : {S : Type 0} → (S → S → Result Part Stop → Type 0) → S → S → Stop → Type 0
EndsLook looked old new e = looked old new (Err e) ⊎ ((e ≡ Memory) × ((part : Part) × looked old new (Ok part)))

-- A search ended so at the last block that it opened, or memory ran out and the store is one that a look has left or the first one.
abbrev pub EndsSearch : {S : Type 0} → (Block → S → S → Result Part Stop → Type 0) → S → S → Stop → Type 0
EndsSearch {S} looked old new e = ((b : Block) × (s : S) × EndsLook (looked b) s new e) ⊎ ((e ≡ Memory) × (new ≡ old))
