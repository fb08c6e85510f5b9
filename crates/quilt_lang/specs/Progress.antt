-- How far the item at the front of a text is cut.
use Rattle.std.specs.Prelude.{◌≡◌, ℕ, ◌+◌, ◌-◌, ◌<◌, ◌≤◌, Bool, false, Some, List, [], ◌∷◌, ◌++◌, length, take, drop}
use Rattle.quilt_lang.specs.declared.asked.Asked.{Asked}
use Rattle.quilt_lang.specs.declared.progress.CutLines.{CutLines}
use Rattle.quilt_lang.specs.declared.progress.Waiting.{Waiting}
use Rattle.quilt_lang.specs.declared.progress.Progress.{Progress}
use Rattle.quilt_lang.specs.declared.progress.Progress.TheVariants as progresses
use Rattle.quilt_lang.specs.declared.front.Front.{Front}
use Rattle.quilt_lang.specs.declared.front.Front.TheVariants as fronts
use Rattle.quilt_lang.specs.declared.first_line.FirstLine.{FirstLine}
use Rattle.quilt_lang.specs.declared.first_line.FirstLine.TheVariants as firsts
use Rattle.quilt_words.specs.Items.{asked, is_silent, whole_lines, words_of}
use Rattle.quilt_lang.specs.Reading.{Gives, HasNone, IsLine, begins_silent, kept_limit, limit_behind, unfinished}
use Rattle.quilt_lang.specs.Shortening.{Misses, bounds_of}
use Rattle.quilt_lang.specs.Cutting.{Cuts, IsAsked, further_count}

-- so many bytes at the front have no newline
pub record IsUncut (scanned : ℕ) (text : List ℕ) : Type 0 where
  pub within : scanned ≤ length text
  pub none : IsLine (take scanned text)

-- these are the lines cut so far, of so many at most
pub record IsCount (most : ℕ) (cut : CutLines) (text : List ℕ) : Type 0 where
  pub within : cut.len ≤ length text
  pub lines : List (List ℕ)
  pub number : length lines ≡ cut.count
  pub few : cut.count ≤ most
  pub short : cut.count ≤ cut.len
  pub cuts : Cuts false lines (take cut.len text) []
  pub behind : IsUncut cut.scanned (drop cut.len text)

-- the first line has so many bytes, begins an item and asks for this
pub record IsFrontLine (ended : Bool) (n : ℕ) (line : ℕ) (what : Asked) (text : List ℕ) : Type 0 where
  pub within : line ≤ length text
  pub whole : ended ≡ false → line < length text
  pub cuts : Cuts ended (take line text ∷ []) text (drop (line + 1) text)
  pub front : ended ≡ false → Cuts false (take line text ∷ []) (take (line + 1) text) []
  pub loud : is_silent (take line text) ≡ false
  pub asks : IsAsked n (asked n (take line text)) (words_of (take line text)) what

-- the first line is cut, and so far these lines behind it
pub record IsWaiting (ended : Bool) (n : ℕ) (waiting : Waiting) (text : List ℕ) : Type 0 where
  pub first : IsFrontLine ended n waiting.line waiting.what text
  pub further : IsCount (further_count n waiting.what) waiting.cut (drop (waiting.line + 1) text)

-- the item at the front is cut so far
abbrev pub IsProgress : ℕ → Progress → List ℕ → Type 0
IsProgress n (progresses.Begun scanned) text = IsUncut scanned text
IsProgress n (progresses.Waiting waiting) text = IsWaiting false n waiting text

-- where the item at the front stands, with all further lines that its line asks for, or where the input has ended; or how far it is cut
-- where none can be given
abbrev pub IsFront : Bool → ℕ → List ℕ → Front → Type 0
IsFront ended n text (fronts.There line what) =
    IsFrontLine ended n line what text × (ended ≡ false → further_count n what ≤ length (whole_lines (drop (line + 1) text)))
IsFront ended n text (fronts.Waits progress) = HasNone ended n text × IsProgress n progress text

-- what the first line is: one that begins no item, with its number of bytes, or another
abbrev pub IsFirstLine : List ℕ → FirstLine → Type 0
IsFirstLine text (firsts.Silent k) = (0 < k) × (k ≤ length text) × ((n : ℕ) → Gives false n [] text (drop k text))
IsFirstLine text (firsts.Begun scanned) = (begins_silent text ≡ false) × IsUncut scanned text

-- of how many bytes it tells
abbrev pub told_len : Progress → ℕ
told_len (progresses.Begun scanned) = scanned
told_len (progresses.Waiting waiting) = waiting.line + 1 + waiting.cut.len + waiting.cut.scanned

-- So many bytes of a rest are kept that waits for more: it holds the same with them alone, they are no more than may be kept, and
-- the item at the front is cut so far, whatever follows them. All lines stand there that end with a newline, and what is known of
-- further lines is how many are missing, where they have a greatest length.
pub record KeepsUnfinished (n : ℕ) (rest : List ℕ) (progress : Progress) : Type 0 where
  pub within : told_len progress ≤ length rest
  pub gives : Gives false n [] rest (take (told_len progress) rest)
  pub short : told_len progress ≤ kept_limit n rest
  pub behind : (piece : List ℕ) → IsProgress n progress (take (told_len progress) rest ++ piece)
  pub lines : whole_lines (take (told_len progress) rest) ≡ whole_lines rest
  pub misses : (b : ℕ × ℕ) → bounds_of n progress ≡ Some b → Misses n b.0 b.1 (take (told_len progress) rest)
  pub part : (b : ℕ × ℕ) → bounds_of n progress ≡ Some b → length (unfinished (take (told_len progress) rest)) ≤ b.0 + 1
  pub bounds : (line : List ℕ) (more : List (List ℕ)) (most : ℕ) → whole_lines rest ≡ line ∷ more → limit_behind n (whole_lines rest) ≡ Some most
      → bounds_of n progress ≡ Some (most, asked n line - length more)
