-- How a story goes on with each call.
use Rattle.std.specs.Prelude.{◌≡◌, ℕ, ◌≤◌, Bool, true, false, List, [], ◌∷◌, ◌++◌, length}
use Rattle.quilt_world.specs.Causes.{next_count}
use Rattle.quilt_host.specs.Story.{Story}
use Rattle.quilt_host.specs.Bytes.{patched}
use Rattle.quilt_host.specs.Acts.{is_settled}
use Rattle.quilt_host.specs.declared.act.Act.{Act}
use Rattle.quilt_host.specs.declared.act.Act.TheVariants.{Opened, Created, Wrote, Lost, Synced, Linked, Took, Ended, Put}

-- the story with one more act
abbrev pub acted : Act → Story → Story
acted act s = record s { acts = act ∷ s.acts }

-- the file of the path is there, and is opened as it is
pub record OpensFile (path : List ℕ) (old new : Story) : Type 0 where
  pub named : path ≡ old.path
  pub there : old.is_there ≡ true
  pub now : new ≡ record old { settled = old.bytes; acts = Opened ∷ old.acts }

-- no file is there, and one with no bytes is made
pub record CreatesFile (path : List ℕ) (old new : Story) : Type 0 where
  pub named : path ≡ old.path
  pub free : old.is_there ≡ false
  pub now : new ≡ record old { is_there = true; owes = true; bytes = []; settled = []; acts = Created ∷ old.acts }

-- the file is there no more
pub record Removes (path : List ℕ) (old new : Story) : Type 0 where
  pub named : path ≡ old.path
  pub now : new ≡ record old { is_there = false; owes = false; bytes = [] }

-- the file is not removed, though that was asked for
abbrev pub FailsToRemove : Story → Story → Type 0
FailsToRemove old new = new ≡ record old { owes = false }

-- the bytes stand at the offset
abbrev pub WritesBytes : ℕ → List ℕ → Story → Story → Type 0
WritesBytes at bytes old new = new ≡ record old { bytes = patched old.bytes at bytes; acts = Wrote at bytes ∷ old.acts }

-- any bytes stand at the offset, so many at most
pub record Loses (at n : ℕ) (old new : Story) : Type 0 where
  pub left : List ℕ
  pub few : length left ≤ n
  pub now : new ≡ record old { bytes = patched old.bytes at left; acts = Lost at n ∷ old.acts }

-- what was written is on the disk
abbrev pub Syncs : Story → Story → Type 0
Syncs old new = new ≡ acted Synced old

-- the file's entry is on the disk, and its bytes, where all that was written is
pub record Links (old new : Story) : Type 0 where
  pub settled : List ℕ
  pub all : is_settled old.acts ≡ true → settled ≡ old.bytes
  pub now : new ≡ record old { settled = settled; acts = Linked ∷ old.acts }

-- what it is to take these bytes of the input
abbrev pub took : List ℕ → Act
took [] = Ended
took (b ∷ bs) = Took (b ∷ bs)

-- the next bytes of the input are taken; none means that it has ended
pub record TakesInput (bytes : List ℕ) (old new : Story) : Type 0 where
  pub rest : List ℕ
  pub next : old.input ≡ bytes ++ rest
  pub end : bytes ≡ [] → old.input ≡ []
  pub now : new ≡ record old { input = rest; acts = took bytes ∷ old.acts }

-- the bytes are put
abbrev pub Puts : List ℕ → Story → Story → Type 0
Puts bytes old new = new ≡ acted (Put bytes) old

-- the line is written to standard error
abbrev pub SaysLine : List ℕ → Story → Story → Type 0
SaysLine line old new = new ≡ record old { said = old.said ++ line; says = next_count old.says }

-- a front of the line is written to standard error, or none of it
pub record SaysFront (line : List ℕ) (old new : Story) : Type 0 where
  pub front : List ℕ
  pub rest : List ℕ
  pub said : line ≡ front ++ rest
  pub now : new ≡ record old { said = old.said ++ front; says = next_count old.says }
