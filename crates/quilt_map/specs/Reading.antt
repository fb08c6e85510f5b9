-- How many pages the answer to a command may cost.
use Rattle.std.specs.Prelude.{ℕ, ◌+◌, ◌≤◌, ◌==◌, List, Option, None, Result, Ok, Err, if◌then◌else◌}
use Rattle.quilt_types.specs.declared.plane.Pixel.{Pixel}
use Rattle.quilt_types.specs.declared.stop.Stop.{Stop}
use Rattle.quilt_words.specs.declared.command.Command.{Command}
use Rattle.quilt_words.specs.declared.command.Command.TheVariants as commands
use Rattle.quilt_world.specs.Tale.{Goes}
use Rattle.quilt_region.specs.Covers.{IsSideOver}
use Rattle.quilt_replies.specs.Answers.{State, layer, capacity_in, grid_in, points_in, segs_in, cover_in}
use Rattle.quilt_replies.specs.declared.reply.Reply.{Reply}
use Rattle.quilt_map.specs.Asking.{warm_after}
use Rattle.quilt_map.specs.Costs.{within_pages, show_pages, cut_pages, block_pages_in}
use Rattle.quilt_map.specs.Selecting.{HasFound, IsAnswered, pages_for_answer}

-- it is answered, and not refused
abbrev pub IsAnsweredOk : Result Reply Stop → Type 0
IsAnsweredOk (Ok reply) = IsAnswered reply
IsAnsweredOk (Err e) = ⊥

-- it has a reply
abbrev pub IsReplied : Result Reply Stop → Type 0
IsReplied (Ok reply) = Unit {0}
IsReplied (Err e) = ⊥

-- The bound holds of this answer: to a command that asks for a colour or a point however it ends, to one that cuts a window where it has a reply, to another
-- where it is answered, and a ranking has as many as it asks for.
abbrev pub IsPromised : State → Command → Result Reply Stop → Type 0
IsPromised s (commands.At a p) r = Unit {0}
IsPromised s (commands.Find p at) r = Unit {0}
IsPromised s (commands.Show a w) r = IsAnsweredOk r
IsPromised s (commands.Within p w) r = IsAnsweredOk r
IsPromised s (commands.Window a w c) r = IsReplied r
IsPromised s (commands.Blocks a) r = IsAnsweredOk r
IsPromised s (commands.Cross l w) r = IsAnsweredOk r
IsPromised s (commands.Clip l w) r = IsAnsweredOk r
IsPromised s (commands.Nearest l at) r = IsAnsweredOk r
IsPromised s (commands.Rank l at k) r = IsAnsweredOk r × HasFound (commands.Rank l at k) (segs_in (layer s l))
IsPromised s command r = ⊥

-- the bound: 6 pages for a colour, 6 or 9 for a point, what the points in a window and the blocks of a layer cost, and for segments what the
-- blocks cost that the command may look into
abbrev pub pages_most : State → Command → ℕ
pages_most s (commands.At a p) = 6
pages_most s (commands.Find p at) = if capacity_in (layer s p) == 1 then 6 else 9
pages_most s (commands.Within p w) = within_pages s.last.level (capacity_in (layer s p)) (points_in (layer s p)) w
pages_most s (commands.Blocks a) = block_pages_in s.last.level (layer s a)
pages_most s (commands.Cross l w) = pages_for_answer s.last.level (commands.Cross l w) (segs_in (layer s l)) (cover_in (layer s l))
pages_most s (commands.Clip l w) = pages_for_answer s.last.level (commands.Clip l w) (segs_in (layer s l)) (cover_in (layer s l))
pages_most s (commands.Nearest l at) = pages_for_answer s.last.level (commands.Nearest l at) (segs_in (layer s l)) (cover_in (layer s l))
pages_most s (commands.Rank l at k) = pages_for_answer s.last.level (commands.Rank l at k) (segs_in (layer s l)) (cover_in (layer s l))
pages_most s command = 0

-- It reads no more pages than that. A window of a region is read by blocks of one side: the least power of two that is no less than the
-- window's sides. One that is made a layer of its own costs the edits of that layer's records beside it.
abbrev pub ReadsFew : State → Command → Option ℕ → Option ℕ → Type 0
ReadsFew s (commands.Show a w) =
    λ old new. (side : ℕ) → IsSideOver w side → Goes (λ before now. now ≤ before + show_pages s.last.level (grid_in (layer s a)) side w) old new
ReadsFew s (commands.Window a w c) =
    λ old new. (side : ℕ) → IsSideOver w side → Goes (λ before now. now ≤ before + cut_pages s.last.level (grid_in (layer s a)) side w) old new
ReadsFew s command = Goes (λ before now. now ≤ before + pages_most s command)

-- the layer and the pixel that the command asked for, where it is an `at` that was answered
abbrev pub warm_left : Command → Result Reply Stop → Option (List ℕ × Pixel)
warm_left (commands.At a p) r = warm_after r a p
warm_left command r = None
