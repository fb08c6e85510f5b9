-- Further lines that come whole in a piece, and of which no more is kept than shows that they are too long.
use Rattle.std.specs.Prelude.{◌≡◌, ℕ, ◌+◌, ◌-◌, ◌*◌, ◌≤◌, false, List, [], ◌∷◌, ◌++◌, length, take, All, Option, Some, None, option_map}
use Rattle.quilt_types.specs.Plane.{side}
use Rattle.quilt_words.specs.Items.{asked, is_silent, line_limit, whole_lines, words_of}
use Rattle.quilt_lang.specs.declared.asked.Asked.{Asked}
use Rattle.quilt_lang.specs.declared.asked.Asked.TheVariants as kinds
use Rattle.quilt_lang.specs.declared.progress.Progress.{Progress}
use Rattle.quilt_lang.specs.declared.progress.Progress.TheVariants as progresses
use Rattle.quilt_lang.specs.Reading.{Gives, limit_behind, point_limit, row_limit, unfinished}
use Rattle.quilt_lang.specs.Cutting.{IsAsked, limit_of, further_count}

-- the first line begins an item that asks for further lines of at most so many bytes, of which so many are missing
pub record Misses (n most missing : ℕ) (text : List ℕ) : Type 0 where
  pub line : List ℕ
  pub more : List (List ℕ)
  pub what : Asked
  pub lines : whole_lines text ≡ line ∷ more
  pub loud : is_silent line ≡ false
  pub asks : IsAsked n (asked n line) (words_of line) what
  pub number : length more + missing ≡ further_count n what
  pub limit : limit_of n what ≡ Some most

-- The new text has the whole lines of the old one and others behind them, and of the first of these, so many, each has at most twice as
-- many bytes as show that a line is too long: some of an unfinished line, and some of its end.
pub record AreShort (most count : ℕ) (old new : List ℕ) : Type 0 where
  pub behind : List (List ℕ)
  pub are : whole_lines new ≡ whole_lines old ++ behind
  pub short : All (λ l. length l ≤ 2 * (most + 1)) (take count behind)

-- these bytes may be put in the place of a piece behind a text whose item misses so many lines
pub record IsShortened (most missing : ℕ) (piece new : List ℕ) : Type 0 where
  pub few : length new ≤ length piece
  pub gives : (n : ℕ) (text : List ℕ) → Misses n most missing text → Gives false n [] (text ++ piece) (text ++ new)
  pub lines : (text : List ℕ) → length (unfinished text) ≤ most + 1 → AreShort most missing text (text ++ new)

-- the most bytes of a further line, and how many are missing where so many stand there, where lines have such a bound
abbrev pub bounds : ℕ → Asked → ℕ → Option (ℕ × ℕ)
bounds n kinds.Nothing count = None
bounds n kinds.Rows count = option_map (λ most. (most, side n - count)) (row_limit n)
bounds n (kinds.Points k) count = Some (point_limit, k - count)
bounds n (kinds.Rings k) count = Some (line_limit, k - count)

-- the same of an item that is cut so far
abbrev pub bounds_of : ℕ → Progress → Option (ℕ × ℕ)
bounds_of n (progresses.Begun scanned) = None
bounds_of n (progresses.Waiting waiting) = bounds n waiting.what waiting.cut.count

-- these bytes may be put in the place of a piece
abbrev pub IsTextPart : Option (ℕ × ℕ) → List ℕ → List ℕ → Type 0
IsTextPart None piece new = new ≡ piece
IsTextPart (Some b) piece new = IsShortened b.0 b.1 piece new

-- Of the further lines of an item that waits, of a kind that has a greatest length, those that come are kept short, as many as are missing.
abbrev pub KeepsShort : ℕ → List ℕ → List ℕ → Type 0
KeepsShort n old new = (line : List ℕ) (more : List (List ℕ)) (most : ℕ) → whole_lines old ≡ line ∷ more → limit_behind n (whole_lines old) ≡ Some most →
    AreShort most (asked n line - length more) old new
