-- What reading a text in pieces gives.
use Rattle.std.specs.Prelude.{◌≡◌, ℕ, ◌+◌, ◌-◌, ◌*◌, ◌<◌, ◌≤◌, ◌==◌, nat_le, min, Bool, true, false, List, [], ◌∷◌, ◌++◌, length, take, drop, map, All, Option, Some, None, Result}
use Rattle.std.specs.Prelude.{if◌then◌else◌, codes}
use Rattle.std.specs.List.{slice_split}
use Rattle.quilt_types.specs.Plane.{side}
use Rattle.quilt_types.specs.declared.code.Code.{Code}
use Rattle.quilt_words.specs.declared.command.Command.{Command}
use Rattle.quilt_words.specs.declared.item.Item.{Item}
use Rattle.quilt_words.specs.Forms.{form}
use Rattle.quilt_words.specs.Items.{Group, begins_with, is_silent, line_limit, whole_lines, words_of, items_of, whole_items, held}

-- what contracts see of a reader of pieces: the level, and a text that has the items not given yet
pub record Unread : Type 0 where
  pub level : ℕ
  pub rest : List ℕ

-- what may still follow: any text, or nothing where the input has ended
abbrev pub MayFollow : Bool → List ℕ → Type 0
MayFollow false v = Unit {0}
MayFollow true v = v ≡ []

-- two lists of groups of lines that hold the same items, in whatever format up to 2 each is read
abbrev pub Same : ℕ → List Group → List Group → Type 0
Same n gs hs = (f : ℕ) → f ≤ 2 → map (held f n) gs ≡ map (held f n) hs

-- Whatever may follow, the items of the old text are these and then those of the new one, and so are the whole items.
pub record Gives (ended : Bool) (n : ℕ) (items : List Group) (old new : List ℕ) : Type 0 where
  pub all : (v : List ℕ) → MayFollow ended v → Same n (items_of n (old ++ v)) (items ++ items_of n (new ++ v))
  pub whole : ended ≡ false → (v : List ℕ) → Same n (whole_items n (old ++ v)) (items ++ whole_items n (new ++ v))

-- one item is given: what some lines hold in the format
pub record GivesItem (ended : Bool) (n f : ℕ) (item : Item) (old new : List ℕ) : Type 0 where
  pub group : Group
  pub is : item ≡ held f n group
  pub gives : Gives ended n (group ∷ []) old new

-- One item is given as what it spells in the format: its command, or the code of its refusal.
pub record GivesCommand (ended : Bool) (n f : ℕ) (spelled : Result Command Code) (old new : List ℕ) : Type 0 where
  pub item : Item
  pub gives : GivesItem ended n f item old new
  pub is : form f item ≡ spelled

-- no item can be given: of the whole ones, or of all where the input has ended
abbrev pub HasNone : Bool → ℕ → List ℕ → Type 0
HasNone false n rest = whole_items n rest ≡ []
HasNone true n rest = items_of n rest ≡ []

-- all the items are these and then others
abbrev pub BeginWith : List Item → List Item → Type 0
BeginWith all items = (others : List Item) × (all ≡ items ++ others)

-- bytes with no newline
abbrev pub IsLine : List ℕ → Type 0
IsLine l = All (λ c. (c == 10) ≡ false) l

-- the first newline stands there
pub record HasNewline (bytes : List ℕ) (k : ℕ) : Type 0 where
  pub within : k < length bytes
  pub before : IsLine (take k bytes)
  pub is : bytes ≡ take k bytes ++ 10 ∷ drop (k + 1) bytes

-- where the first newline stands, if there is one
abbrev pub IsNewlineFound : List ℕ → Option ℕ → Type 0
IsNewlineFound bytes None = IsLine bytes
IsNewlineFound bytes (Some k) = HasNewline bytes k

-- the first of these lines is there, and begins no item
abbrev pub first_is_silent : List (List ℕ) → Bool
first_is_silent [] = false
first_is_silent (l ∷ ls) = is_silent l

-- the text begins with a whole line that begins no item
abbrev pub begins_silent : List ℕ → Bool
begins_silent text = first_is_silent (whole_lines text)

-- a line with no further lines
abbrev pub alone : List ℕ → Group
alone line = record { line = line; more = [] }

-- the last of these
abbrev pub last_part : List (List ℕ) → List ℕ
last_part [] = []
last_part (l ∷ []) = l
last_part (l ∷ m ∷ ls) = last_part (m ∷ ls)

-- the bytes behind the last newline
unfoldable pub unfinished : List ℕ → List ℕ
unfinished text = last_part (slice_split (λ c. c == 10) text)

-- the most bytes that a list line may have
abbrev pub point_limit : ℕ
point_limit = 64

-- the most bytes that a row may have, in a format up to 2: four a pixel; beyond level 16, where pixels have no numbers of 16 bits, it has no such bound
abbrev pub row_limit : ℕ → Option ℕ
row_limit n = if nat_le n 16 then Some (4 * side n) else None

-- the most bytes that a line may have behind these whole lines: one that begins an item, a row, a list line or a ring line
abbrev pub limit_behind : ℕ → List (List ℕ) → Option ℕ
limit_behind n [] = Some line_limit
limit_behind n (l ∷ ls) =
    if begins_with (words_of l) (codes "raster") then row_limit n
    else if begins_with (words_of l) (codes "scatter") then Some point_limit
    else if begins_with (words_of l) (codes "polygon") then Some line_limit else None

-- so many bytes, and no more than show that they are too many
abbrev pub enough_of : Option ℕ → ℕ → ℕ
enough_of None k = k
enough_of (Some most) k = min k (most + 1)

-- The most bytes that are kept of a rest whose whole items are all given: all that end with a newline, and of the last line no more
-- than show that it is too long.
abbrev pub kept_limit : ℕ → List ℕ → ℕ
kept_limit n rest = length rest - length (unfinished rest) + enough_of (limit_behind n (whole_lines rest)) (length (unfinished rest))
