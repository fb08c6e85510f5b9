-- How far a run has come.
use Rattle.std.specs.Prelude.{◌≡◌, ℕ, Bool, false, List, ◌++◌, length}
use Rattle.std.specs.List.{list_all}
use Rattle.quilt_world.specs.Added.{AtEachTook}
use Rattle.quilt_world.specs.Stops.{LeavesNow}
use Rattle.quilt_world.specs.Tale.{Tale, put_bytes, taken_bytes}
use Rattle.quilt_edition.specs.Stands.{Stands}
use Rattle.quilt_words.specs.Items.{Group}
use Rattle.quilt_lang.specs.Reading.{Gives}
use Rattle.quilt_replies.specs.Answers.{State}
use Rattle.quilt_replies.specs.Runs.{is_done}
use Rattle.quilt_top.specs.Answering.{Steps, changes_all}
use Rattle.quilt_top.specs.Replies.{state_after, replies_from, said_for}
use Rattle.quilt_top.specs.TextRun.{PromptAt, IsUntold}

-- so many bytes were taken, of them these items were given and answered, and the rest is kept
pub record ReadSoFar (n count : ℕ) (flag : Bool) (s0 s1 : State) (c1 : ℕ) (rest : List ℕ) (old new : Tale) : Type 0 where
  pub untold : IsUntold old
  pub leaves : LeavesNow old (λ image. Stands image s0.last)
  pub items : List Group
  pub taken : List ℕ
  pub gives : Gives false n items taken rest
  pub state : s1 ≡ state_after s0 items
  pub changes : c1 ≡ changes_all s0 0 items
  pub steps : Steps s0 0 items old new
  pub input : old.input ≡ taken ++ new.input
  pub takes : taken_bytes new.log ≡ taken
  pub total : count ≡ length taken
  pub put : put_bytes new.log ≡ said_for s0 items
  pub done : flag ≡ list_all is_done (replies_from s0 items)
  pub prompt : AtEachTook (PromptAt n s0 old.input) new.log
