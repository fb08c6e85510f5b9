-- What a source gives.
use Rattle.std.specs.Prelude.{◌≡◌, ℕ, List, ◌++◌, length, min, replicate}
use Rattle.quilt_desk.specs.declared.source.Source.{Source}
use Rattle.quilt_desk.specs.declared.source.Source.TheVariants.{Bytes, Endless}

-- the source gives these bytes where so many are asked for: the next of a list, as many as it has, or the one byte without end
abbrev pub SourceGives : Source → List ℕ → ℕ → Source → Type 0
SourceGives (Bytes old) bytes asked (Bytes new) = (old ≡ bytes ++ new) × (length bytes ≡ min (length old) asked)
SourceGives (Bytes old) bytes asked (Endless byte) = ⊥
SourceGives (Endless byte) bytes asked (Bytes new) = ⊥
SourceGives (Endless byte) bytes asked (Endless same) = (same ≡ byte) × (bytes ≡ replicate asked byte)
