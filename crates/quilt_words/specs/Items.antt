-- The items of a text: lines, each with the further lines that belong to it.
use Rattle.std.specs.Prelude.{ℕ, zero, suc, ◌*◌, Bool, true, false, ◌&&◌, ◌||◌, not, ◌==◌, nat_le, nat_lt, List, [], ◌∷◌, ◌++◌, length, filter, flat_map, take}
use Rattle.std.specs.Prelude.{Option, Some, None, if◌then◌else◌, codes, unwrap_or, option_map, option_and_then}
use Rattle.std.specs.List.{list_all, slice_split}
use Rattle.std.specs.Str.{bytes_eq}
use Rattle.quilt_types.specs.Plane.{side}
use Rattle.quilt_types.specs.declared.plane.Point.{Point}
use Rattle.quilt_types.specs.declared.plane.Corner.{Corner}
use Rattle.quilt_words.specs.declared.item.Item.{Item}
use Rattle.quilt_words.specs.declared.item.Item.TheVariants.{Long, Line, Rows, PointLines, RingLines}
use Rattle.quilt_words.specs.Spelling.{number, row}

-- the line or word has no byte
abbrev pub is_empty : List ℕ → Bool
is_empty [] = true
is_empty (c ∷ cs) = false

-- the pieces between newlines; what follows the last newline is a line only where it is not empty
abbrev pub without_empty_end : List (List ℕ) → List (List ℕ)
without_empty_end [] = []
without_empty_end (l ∷ []) = if is_empty l then [] else l ∷ []
without_empty_end (l ∷ m ∷ ls) = l ∷ without_empty_end (m ∷ ls)

-- the lines of a text, without their newlines; the last need not have one
unfoldable pub lines_of : List ℕ → List (List ℕ)
lines_of text = without_empty_end (slice_split (λ c. c == 10) text)

-- the words of a line, between spaces
unfoldable pub words_of : List ℕ → List (List ℕ)
words_of line = filter (λ w. not (is_empty w)) (slice_split (λ c. c == 32) line)

-- how many bytes a line may have
abbrev pub line_limit : ℕ
line_limit = 8320

-- the line has more bytes than a line may have
abbrev pub is_long : List ℕ → Bool
is_long line = nat_lt line_limit (length line)

-- a byte that a line may have
abbrev pub is_plain : ℕ → Bool
is_plain c = nat_le 32 c && nat_le c 126

-- the words of a line that is empty or has spaces only, or whose first word begins with `#`
abbrev pub is_remark : List (List ℕ) → Bool
is_remark [] = true
is_remark ([] ∷ ws) = false
is_remark ((c ∷ cs) ∷ ws) = c == 35

-- a line that begins no item and has no reply
abbrev pub is_silent : List ℕ → Bool
is_silent line = not (is_long line) && list_all is_plain line && is_remark (words_of line)

-- how many list lines or ring lines the words ask for
abbrev pub listed_by : List (List ℕ) → ℕ
listed_by (w ∷ p ∷ k ∷ []) = if bytes_eq w (codes "scatter") then unwrap_or (number 1 100000 k) 0 else 0
listed_by (w ∷ p ∷ c ∷ k ∷ []) = if bytes_eq w (codes "polygon") then unwrap_or (number 1 1000 k) 0 else 0
listed_by ws = 0

-- how many further lines the words ask for
abbrev pub asked_by : ℕ → List (List ℕ) → ℕ
asked_by n [] = 0
asked_by n (w ∷ ws) = if bytes_eq w (codes "raster") then side n else listed_by (w ∷ ws)

-- how many further lines a line asks for at a level: none where it is too long or has a byte outside of 32 to 126
abbrev pub asked : ℕ → List ℕ → ℕ
asked n line = if is_long line || not (list_all is_plain line) then 0 else asked_by n (words_of line)

-- a line and the further lines that there are of those that it asks for
pub record Group : Type 0 where
  pub line : List ℕ
  pub more : List (List ℕ)

-- The groups of these lines, of which the first so many belong to the group before.
abbrev pub groups_from : ℕ → ℕ → List (List ℕ) → List Group
groups_from n k [] = []
groups_from n (suc k) (line ∷ lines) = groups_from n k lines
groups_from n zero (line ∷ lines) =
    if is_silent line then groups_from n 0 lines
    else record { line = line; more = take (asked n line) lines } ∷ groups_from n (asked n line) lines

-- no line that it asks for is missing
abbrev pub is_complete : ℕ → Group → Bool
is_complete n group = length group.more == asked n group.line

-- all but the last
abbrev pub without_last : List (List ℕ) → List (List ℕ)
without_last [] = []
without_last (l ∷ []) = []
without_last (l ∷ m ∷ ls) = l ∷ without_last (m ∷ ls)

-- the lines that stand in the text with their newline
unfoldable pub whole_lines : List ℕ → List (List ℕ)
whole_lines text = without_last (slice_split (λ c. c == 10) text)

-- What an item holds: of a line that is too long only that it is, and of further lines what they spell.

-- two bytes a colour, the high one first: in format 1 a row has the low one alone
abbrev pub colour_bytes : ℕ → List ℕ → List ℕ
colour_bytes f bytes = if f == 1 then flat_map (λ c. 0 ∷ c ∷ []) bytes else bytes

-- the colours of all rows, where each is there and well formed: two digits a colour in format 1, and four in format 2
abbrev pub rows_joined : ℕ → ℕ → List (List ℕ) → Option (List ℕ)
rows_joined f width [] = Some []
rows_joined f width (line ∷ lines) =
    if length line == 2 * f * width
    then option_and_then (λ bytes. option_map (λ rest. colour_bytes f bytes ++ rest) (rows_joined f width lines)) (row line) else None

-- the colours that the further lines of a raster give, two bytes each: nothing unless all 2^n rows are there and well formed
abbrev pub rows_of : ℕ → ℕ → List (List ℕ) → Option (List ℕ)
rows_of f n more = if length more == side n then rows_joined f (side n) more else None

-- the point at x and y with this label, where all three are there
abbrev pub point : Option ℕ → Option ℕ → Option ℕ → Option Point
point (Some x) (Some y) (Some l) = Some (record { at = record { x = x; y = y }; label = l })
point x y l = None

-- the point that the words of a list line give: x, y and label
abbrev pub point_of : List (List ℕ) → Option Point
point_of (x ∷ y ∷ l ∷ []) = point (number 0 65535 x) (number 0 65535 y) (number 0 4294967295 l)
point_of words = None

-- the points of all list lines, where each is there and well formed
abbrev pub points_joined : List (List ℕ) → Option (List Point)
points_joined [] = Some []
points_joined (line ∷ lines) =
    if nat_le (length line) 64
    then option_and_then (λ p. option_map (λ ps. p ∷ ps) (points_joined lines)) (point_of (words_of line)) else None

-- the points that the k further lines of a scatter give: nothing unless all k are there and well formed
abbrev pub points_of : ℕ → List (List ℕ) → Option (List Point)
points_of k more = if length more == k then points_joined more else None

-- the corners that the words of a ring line give, two words each
abbrev pub corner_of : Option ℕ → Option ℕ → Option Corner
corner_of (Some x) (Some y) = Some (record { x = x; y = y })
corner_of x y = None

-- the corners that words give, two words each: nothing where a word is left over or ill-spelled
abbrev pub corners_of : List (List ℕ) → Option (List Corner)
corners_of [] = Some []
corners_of (x ∷ []) = None
corners_of (x ∷ y ∷ ws) =
    option_and_then (λ c. option_map (λ cs. c ∷ cs) (corners_of ws)) (corner_of (number 0 65535 x) (number 0 65535 y))

-- at least three corners
abbrev pub ring_of : List ℕ → Option (List Corner)
ring_of line = if is_long line || nat_lt (length (words_of line)) 6 then None else corners_of (words_of line)

-- the rings of all ring lines, where each is well formed
abbrev pub rings_joined : List (List ℕ) → Option (List (List Corner))
rings_joined [] = Some []
rings_joined (line ∷ lines) = option_and_then (λ r. option_map (λ rs. r ∷ rs) (rings_joined lines)) (ring_of line)

-- the rings that the k further lines of a polygon give: nothing unless all k are there and well formed
abbrev pub rings_of : ℕ → List (List ℕ) → Option (List (List Corner))
rings_of k more = if length more == k then rings_joined more else None

-- the first word is this one
abbrev pub begins_with : List (List ℕ) → List ℕ → Bool
begins_with [] word = false
begins_with (w ∷ ws) word = bytes_eq w word

-- what a group holds in a format, where so many further lines are asked for
abbrev pub held_as : ℕ → ℕ → ℕ → Group → Item
held_as f n zero group = Line group.line
held_as f n (suc k) group =
    if begins_with (words_of group.line) (codes "raster") then Rows group.line (rows_of f n group.more)
    else if begins_with (words_of group.line) (codes "scatter") then PointLines group.line (points_of (suc k) group.more)
    else RingLines group.line (rings_of (suc k) group.more)

-- what an item of a text holds when its further lines are read in a format
unfoldable pub held : ℕ → ℕ → Group → Item
held f n group = if is_long group.line then Long else held_as f n (asked n group.line) group

-- the items of a text at a level
unfoldable pub items_of : ℕ → List ℕ → List Group
items_of n text = groups_from n 0 (lines_of text)

-- the items whose lines all stand in the text, each with its newline
unfoldable pub whole_items : ℕ → List ℕ → List Group
whole_items n text = filter (is_complete n) (groups_from n 0 (whole_lines text))
