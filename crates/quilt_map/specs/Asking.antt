-- What commands that change nothing find, and what they leave.
use Rattle.std.specs.Prelude.{◌≡◌, ℕ, ◌≤◌, ◌∷◌, List, Bool, Result, Ok, Err, Option, Some, None}
use Rattle.std.specs.FinMap as finmap
use Rattle.std.specs.Map.{keys_of}
use Rattle.quilt_types.specs.declared.code.Code.{Code}
use Rattle.quilt_types.specs.declared.plane.Kind.{Kind}
use Rattle.quilt_types.specs.declared.plane.Pixel.{Pixel}
use Rattle.quilt_types.specs.Layers.{Layer, Region, Map, Grid}
use Rattle.quilt_world.specs.declared.disk.Disk as disk
use Rattle.quilt_record.specs.Records.{Numbering}
use Rattle.quilt_world.specs.Tale.{Goes}
use Rattle.quilt_spell.specs.Catalogued.{kind_of}
use Rattle.quilt_spell.specs.Written.{number_of}
use Rattle.quilt_pool.specs.Views.{entries_of}
use Rattle.quilt_edition.specs.Keeping.{tale_reads}
use Rattle.quilt_edition.specs.declared.book.Book.{Book}
use Rattle.quilt_replies.specs.Answers.{State, Outcome, Refused, unless, unknown, unless_region}
use Rattle.quilt_map.specs.Sessions.{IsLaterBook, told_of, free_of, changed_of}
use Rattle.quilt_replies.specs.declared.reply.Reply as replies
use Rattle.quilt_replies.specs.declared.reply.Reply.TheVariants as reply
use Rattle.quilt_map.specs.declared.session.Session.{Session}

-- the map has a region layer under the name, and its records have this number
pub record IsRegionAt (layers : Map) (numbers : Numbering) (name : List ℕ) (number : ℕ) : Type 0 where
  pub grid : Grid
  pub got : finmap.get layers name ≡ Some (Region grid)
  pub numbered : number ≡ number_of numbers name

-- where these tests come first, they refuse with the code
abbrev pub IsRefusedFirst : State → List ℕ → Code → Type 0
IsRefusedFirst s name code = (rs : List (Bool × Code)) (done : Outcome) → (unless (unknown s name ∷ unless_region s name ∷ rs) s done).reply ≡ Refused code

-- the map has a layer of this kind under the name, and its records have this number
pub record IsLayerUnder (layers : Map) (numbers : Numbering) (name : List ℕ) (number : ℕ) (kind : Kind) : Type 0 where
  pub layer : Layer
  pub got : finmap.get layers name ≡ Some layer
  pub numbered : number ≡ number_of numbers name
  pub kinded : kind ≡ kind_of layer

-- the layer and the pixel that was asked for, where it was answered
abbrev pub warm_after : {E : Type 0} → Result replies.Reply E → List ℕ → Pixel → Option (List ℕ × Pixel)
warm_after (Ok (reply.Ok text)) name at = Some (name, at)
warm_after (Ok (reply.No code)) name at = None
warm_after (Err e) name at = None

-- the reply has the text
abbrev pub HasText : {E : Type 0} → Result (List ℕ) E → replies.Reply → Type 0
HasText (Ok text) r = r ≡ reply.Ok text
HasText (Err e) r = ⊥

module _ {W : Type 0} {D : disk.Ghosts W} where
  -- The book goes on with the same pages, free pages and heads, and no more pages are changed.
  pub record IsStill (old new : Book W D) : Type 0 where
    pub later : IsLaterBook old new
    pub told : told_of new ≡ told_of old
    pub free : free_of new ≡ free_of old
    pub changed : changed_of new ≤ changed_of old

  -- all but the book and the last pixel that was asked for is as before
  pub record KeepsAll (old new : Session W D) : Type 0 where
    pub book : IsStill old.book new.book
    pub catalog : new.catalog ≡ old.catalog
    pub last : new.last ≡ old.last
    pub changes : new.changes ≡ old.changes

module _ {W : Type 0} {D : disk.Ghosts W} where
  -- how often the disk was read, and the pages that are held, the last used first
  abbrev pub reads_in : Book W D → Option ℕ
  reads_in b = tale_reads (D.told b.world)

  -- the pages that the pool holds, the last used first
  abbrev pub pages_held : Book W D → Option (List ℕ)
  pages_held b = Some (keys_of (entries_of b.pool))

  -- the disk is not read
  abbrev pub ReadsNothing : Book W D → Book W D → Type 0
  ReadsNothing old new = Goes (λ before now. now ≤ before) (reads_in old) (reads_in new)
