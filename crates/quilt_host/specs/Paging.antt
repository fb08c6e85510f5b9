-- What writing, tearing and opening do to a story, seen as pages.
use Rattle.std.specs.Prelude.{◌≡◌, ◌⊎◌, ℕ, ◌*◌, ◌≤◌, Bool, true, false, List, [], ◌∷◌, ◌++◌, length, replicate}
use Rattle.quilt_world.specs.declared.event.Event.TheVariants.{Wrote, Tore}
use Rattle.quilt_host.specs.Story.{Story}
use Rattle.quilt_host.specs.Bytes.{patched}
use Rattle.quilt_host.specs.Acts.{log_of}

-- all but the bytes of the file, the acts and what is owed is as it was
pub record KeepsRest (old new : Story) : Type 0 where
  pub words : new.words ≡ old.words
  pub path : new.path ≡ old.path
  pub was_there : new.was_there ≡ old.was_there
  pub is_there : new.is_there ≡ old.is_there
  pub settled : new.settled ≡ old.settled
  pub input : new.input ≡ old.input
  pub said : new.said ≡ old.said
  pub says : new.says ≡ old.says

-- the words, the path, whether a file was there at first, the input, and what was written to standard error are as they were
pub record KeepsStart (old new : Story) : Type 0 where
  pub words : new.words ≡ old.words
  pub path : new.path ≡ old.path
  pub was_there : new.was_there ≡ old.was_there
  pub input : new.input ≡ old.input
  pub said : new.said ≡ old.said
  pub says : new.says ≡ old.says

-- a file is there just where one was, with the same bytes
pub record KeepsBytes (old new : Story) : Type 0 where
  pub is_there : new.is_there ≡ old.is_there
  pub bytes : new.bytes ≡ old.bytes

-- A new file is filled: it has so many pages of zeros, which are on the disk.
pub record Fills (pages : ℕ) (old new : Story) : Type 0 where
  pub same : KeepsStart old new
  pub is_there : new.is_there ≡ old.is_there
  pub bytes : new.bytes ≡ replicate (pages * 4096) 0
  pub settled : new.settled ≡ replicate (pages * 4096) 0
  pub log : log_of new.acts ≡ []

-- So many pages of zeros are written behind one another.
pub record WritesZeros (pages : ℕ) (old new : Story) : Type 0 where
  pub rest : KeepsRest old new
  pub bytes : new.bytes ≡ replicate (pages * 4096) 0
  pub owes : new.owes ≡ old.owes

-- some of the bytes may be written
pub record WritesSome (old new : Story) : Type 0 where
  pub rest : KeepsRest old new
  pub owes : new.owes ≡ old.owes

-- the page is written whole
pub record WritesPage (i : ℕ) (page : List ℕ) (old new : Story) : Type 0 where
  pub rest : KeepsRest old new
  pub bytes : new.bytes ≡ patched old.bytes (i * 4096) page
  pub log : log_of new.acts ≡ log_of old.acts ++ Wrote i page ∷ []
  pub owes : new.owes ≡ old.owes

-- any bytes stand in the page, which is torn
pub record TearsPage (i : ℕ) (old new : Story) : Type 0 where
  pub rest : KeepsRest old new
  pub left : List ℕ
  pub few : length left ≤ 4096
  pub bytes : new.bytes ≡ patched old.bytes (i * 4096) left
  pub log : log_of new.acts ≡ log_of old.acts ++ Tore i ∷ []
  pub owes : new.owes ≡ old.owes

-- The file was not there, and is a new one of so many pages of zeros, which is on the disk.
pub record MakesMap (path : List ℕ) (pages : ℕ) (old new : Story) : Type 0 where
  pub named : path ≡ old.path
  pub free : old.is_there ≡ false
  pub there : new.is_there ≡ true
  pub same : KeepsStart old new
  pub bytes : new.bytes ≡ replicate (pages * 4096) 0
  pub settled : new.settled ≡ replicate (pages * 4096) 0
  pub log : log_of new.acts ≡ []

-- No map is made: a file that was there is as it was, and the removal of one that was made was asked for.
pub record FailsToMake (old new : Story) : Type 0 where
  pub same : KeepsStart old new
  pub kept : old.is_there ≡ true → new ≡ old
  pub cleared : old.owes ≡ false → new.owes ≡ false

-- what was written is on the disk, and so is the file's entry
pub record Settles (old new : Story) : Type 0 where
  pub same : KeepsStart old new
  pub is_there : new.is_there ≡ old.is_there
  pub bytes : new.bytes ≡ old.bytes
  pub settled : new.settled ≡ old.bytes
  pub log : log_of new.acts ≡ []

-- the removal of the file was asked for
pub record IsCleared (old new : Story) : Type 0 where
  pub same : KeepsStart old new
  pub cleared : new.owes ≡ false
