-- Commands that ask for segments of a line layer, and what they are answered once it was found.
use Rattle.std.specs.Prelude.{◌≡◌, ℕ, ◌≤◌, ◌∷◌, ◌==◌, Bool, true, false, List, Option, Some, None, map, filter, flat_map, length, decimal, nat_lt}
use Rattle.std.specs.Prelude.{if◌then◌else◌}
use Rattle.std.specs.FinMap as finmap
use Rattle.quilt_types.specs.declared.code.Code.{Code}
use Rattle.quilt_types.specs.declared.code.Code.TheVariants as no
use Rattle.quilt_types.specs.declared.plane.Block.{Block}
use Rattle.quilt_types.specs.declared.plane.Pixel.{Pixel}
use Rattle.quilt_types.specs.Fractions.{Fraction}
use Rattle.quilt_types.specs.Layers.{SegMap, BlockSet, Grid}
use Rattle.quilt_types.specs.Crossings.{crossings}
use Rattle.quilt_types.specs.Plane.{is_pixel, is_window}
use Rattle.quilt_types.specs.Quadtrees.{reach}
use Rattle.quilt_types.specs.Ranking.{ranked}
use Rattle.quilt_types.specs.Segments.{meets, nearest}
use Rattle.quilt_world.specs.declared.disk.Disk as disk
use Rattle.quilt_near.specs.Budgets.{is_close}
use Rattle.quilt_near.specs.Lines.{Lines}
use Rattle.quilt_lines.specs.Layers.{ShowsLines}
use Rattle.quilt_lines.specs.declared.view.LineView.{LineView}
use Rattle.quilt_rank.specs.Ranks.{last_far}
use Rattle.quilt_select.specs.Shares.{is_touching}
use Rattle.quilt_words.specs.declared.command.Command.{Command}
use Rattle.quilt_words.specs.declared.command.Command.TheVariants as commands
use Rattle.quilt_edition.specs.declared.book.Book.{Book}
use Rattle.quilt_replies.specs.Answers.{State, Outcome, Reply, Done, Refused, unless, unknown, unless_lines, unless_region, seg_line, clip_lines, nearest_lines}
use Rattle.quilt_replies.specs.Answers.{ranked_line, pair_line, is_over}
use Rattle.quilt_replies.specs.declared.reply.Reply as replies
use Rattle.quilt_replies.specs.declared.reply.Reply.TheVariants as given
use Rattle.quilt_map.specs.Sessions.{told_of}

-- the line layer that a command asks for segments by a window or a pixel
abbrev pub layer_asked : Command → Option (List ℕ)
layer_asked (commands.Cross l w) = Some l
layer_asked (commands.Clip l w) = Some l
layer_asked (commands.Nearest l at) = Some l
layer_asked (commands.Rank l at k) = Some l
layer_asked command = None

-- its window or its pixel lies in the square
abbrev pub is_place : ℕ → Command → Bool
is_place n (commands.Cross l w) = is_window n w
is_place n (commands.Clip l w) = is_window n w
is_place n (commands.Nearest l at) = is_pixel n at
is_place n (commands.Rank l at k) = is_pixel n at
is_place n command = true

-- it asks for one segment at least
abbrev pub AsksSome : Command → Type 0
AsksSome (commands.Rank l at k) = 1 ≤ k
AsksSome command = Unit {0}

-- the nearest segment, or that there is none
abbrev pub nearest_reply : Option (ℕ × Fraction) → Reply
nearest_reply None = Refused no.Absent
nearest_reply (Some e) = Done (nearest_lines (Some e))

-- the reply to the command where the layer has these segments
abbrev pub selected : Command → SegMap → Reply
selected (commands.Cross l w) segs = Done (map seg_line (filter (λ e. meets e.1 w) (finmap.entries segs)))
selected (commands.Clip l w) segs = Done (flat_map (clip_lines w) (finmap.entries segs))
selected (commands.Nearest l at) segs = nearest_reply (nearest segs at)
selected (commands.Rank l at k) segs = if finmap.len segs == 0 then Refused no.Absent else Done (map ranked_line (ranked segs at k))
selected command segs = Refused no.Absent

-- the ids of the segments that meet the square of a pixel that is not background
abbrev pub selected_over : ℕ → Grid → SegMap → Reply
selected_over n g segs = Done (map (λ e. decimal e.0) (filter (λ e. is_over n g e.1) (finmap.entries segs)))

-- the pairs of ids whose segments share a point, or that there are too many
abbrev pub crossed : SegMap → SegMap → Reply
crossed a b = if nat_lt 1000000 (length (crossings a b)) then Refused no.Many else Done (map pair_line (crossings a b))

-- a block that is no farther from the pixel than the segment found
abbrev pub is_near : Pixel → Option (ℕ × Fraction) → Block → Bool
is_near at None = λ b. false
is_near at (Some e) = is_close at e.1

-- the blocks that the command may look into
abbrev pub is_asked : Command → SegMap → Block → Bool
is_asked (commands.Cross l w) segs = is_touching w
is_asked (commands.Clip l w) segs = is_touching w
is_asked (commands.Nearest l at) segs = is_near at (nearest segs at)
is_asked (commands.Rank l at k) segs = is_close at (last_far (ranked segs at k))
is_asked command segs = λ b. false

-- as many segments were found as it asked for, where it gives a number
abbrev pub HasFound : Command → SegMap → Type 0
HasFound (commands.Rank l at k) segs = length (ranked segs at k) ≡ k
HasFound command segs = Unit {0}

-- it is answered and not refused
abbrev pub IsAnswered : replies.Reply → Type 0
IsAnswered (given.Ok text) = Unit {0}
IsAnswered (given.No code) = ⊥

-- how many pages the answer may cost, at this level
abbrev pub pages_for_answer : ℕ → Command → SegMap → BlockSet → ℕ
pages_for_answer n command segs cover = reach n segs cover (is_asked command segs)

-- where the tests of a line layer and a region layer come first, they refuse with the code
abbrev pub AreNotLinesAndRegion : State → List ℕ → List ℕ → Code → Type 0
AreNotLinesAndRegion s l a code = (rs : List (Bool × Code)) (done : Outcome) →
    (unless (unknown s l ∷ unknown s a ∷ unless_lines s l ∷ unless_region s a ∷ rs) s done).reply ≡ Refused code

-- where the tests of two line layers come first, they refuse with the code
abbrev pub AreNotLines : State → List ℕ → List ℕ → Code → Type 0
AreNotLines s l m code = (rs : List (Bool × Code)) (done : Outcome) →
    (unless (unknown s l ∷ unknown s m ∷ unless_lines s l ∷ unless_lines s m ∷ rs) s done).reply ≡ Refused code

module _ {W : Type 0} {D : disk.Ghosts W} where
  -- the view shows these segments and blocks over the book's pages
  abbrev pub Shows : Book W D → LineView → Lines → Type 0
  Shows b v l = ShowsLines (told_of b) v.tree v.layer v.level l
