-- Lines cut from the front of a text, and how many further lines a line asks for.
use Rattle.std.specs.Prelude.{◌≡◌, ℕ, ◌<◌, ◌≤◌, ◌+◌, Bool, true, false, List, [], ◌++◌, length, take, drop, codes, Option, Some, None}
use Rattle.quilt_types.specs.Plane.{side}
use Rattle.quilt_lang.specs.declared.asked.Asked.{Asked}
use Rattle.quilt_lang.specs.declared.asked.Asked.TheVariants as kinds
use Rattle.quilt_words.specs.declared.item.Item.{Item}
use Rattle.quilt_words.specs.declared.item.Item.TheVariants.{Line, Rows, PointLines, RingLines}
use Rattle.quilt_words.specs.Items.{Group, begins_with, line_limit, lines_of, whole_lines, rows_of, points_of, rings_of}
use Rattle.quilt_lang.specs.Reading.{MayFollow, point_limit, row_limit}

-- a line with these further lines
abbrev pub grouped : List ℕ → List (List ℕ) → Group
grouped line more = record { line = line; more = more }

-- Whatever may follow, the lines of the old text are these and then those of the new one, and so are the whole lines.
pub record Cuts (ended : Bool) (lines : List (List ℕ)) (old new : List ℕ) : Type 0 where
  pub all : (v : List ℕ) → MayFollow ended v → lines_of (old ++ v) ≡ lines ++ lines_of (new ++ v)
  pub whole : ended ≡ false → (v : List ℕ) → whole_lines (old ++ v) ≡ lines ++ whole_lines (new ++ v)

-- no line can be cut: none that is whole, or none at all where the input has ended
abbrev pub HasNoLine : Bool → List ℕ → Type 0
HasNoLine false text = whole_lines text ≡ []
HasNoLine true text = lines_of text ≡ []

-- so many lines are cut at most, and fewer only where there are no more
pub record CutsUpTo (ended : Bool) (count : ℕ) (lines : List (List ℕ)) (old new : List ℕ) : Type 0 where
  pub cuts : Cuts ended lines old new
  pub few : length lines ≤ count
  pub stops : length lines < count → HasNoLine ended new

-- how many further lines they are
abbrev pub further_count : ℕ → Asked → ℕ
further_count n kinds.Nothing = 0
further_count n kinds.Rows = side n
further_count n (kinds.Points k) = k
further_count n (kinds.Rings k) = k

-- the most bytes that one of them may have
abbrev pub limit_of : ℕ → Asked → Option ℕ
limit_of n kinds.Nothing = None
limit_of n kinds.Rows = row_limit n
limit_of n (kinds.Points k) = Some point_limit
limit_of n (kinds.Rings k) = Some line_limit

-- the words begin with the one that asks for them, and for one line at least
abbrev pub IsAsking : List (List ℕ) → Asked → Type 0
IsAsking ws kinds.Nothing = Unit {0}
IsAsking ws kinds.Rows = begins_with ws (codes "raster") ≡ true
IsAsking ws (kinds.Points k) = (0 < k) × (begins_with ws (codes "scatter") ≡ true)
IsAsking ws (kinds.Rings k) = (0 < k) × (begins_with ws (codes "polygon") ≡ true)

-- these are what words ask for that ask for so many lines
pub record IsAsked (n count : ℕ) (ws : List (List ℕ)) (what : Asked) : Type 0 where
  pub number : count ≡ further_count n what
  pub kind : IsAsking ws what

-- what a line holds with these further lines, where it asks for such
abbrev pub holding : ℕ → ℕ → List ℕ → List (List ℕ) → Asked → Item
holding f n line more kinds.Nothing = Line line
holding f n line more kinds.Rows = Rows line (rows_of f n more)
holding f n line more (kinds.Points k) = PointLines line (points_of k more)
holding f n line more (kinds.Rings k) = RingLines line (rings_of k more)

-- An item asks for rows of a level at which pixels have numbers of 16 bits, its line has so many bytes, and all of its lines so many.
pub record HasRaster (ended : Bool) (n line : ℕ) (what : Asked) (len : ℕ) (text : List ℕ) : Type 0 where
  pub kind : what ≡ kinds.Rows
  pub low : n ≤ 16
  pub within : len ≤ length text
  pub rows : CutsUpTo ended (side n) (take (side n) (lines_of (drop (line + 1) text))) (drop (line + 1) text) (drop len text)
