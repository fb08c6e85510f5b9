-- What answering items does.
use Rattle.std.specs.Prelude.{◌≡◌, ℕ, Bool, ◌&&◌, List, ◌++◌, Option}
use Rattle.std.specs.List.{list_all}
use Rattle.quilt_world.specs.Stops.{LeavesNow}
use Rattle.quilt_world.specs.Tale.{Tale, Goes, Begins}
use Rattle.quilt_edition.specs.Stands.{Stands}
use Rattle.quilt_words.specs.Items.{Group, items_of}
use Rattle.quilt_lang.specs.Reading.{Gives, MayFollow}
use Rattle.quilt_replies.specs.Answers.{State}
use Rattle.quilt_replies.specs.Runs.{is_done}
use Rattle.quilt_top.specs.Answering.{Steps, StepsPrefix, changes_all}
use Rattle.quilt_top.specs.Replies.{state_after, replies_from, said_for}
use Rattle.quilt_top.specs.Saying.{Says}

-- these items were given, answered and their replies put
pub record ItemsAnswered (ended : Bool) (n : ℕ) (so_far flag : Bool) (s0 s1 : State) (c0 c1 : ℕ) (r0 r1 : List ℕ) (old new : Option Tale) : Type 0 where
  pub items : List Group
  pub gives : Gives ended n items r0 r1
  pub state : s1 ≡ state_after s0 items
  pub changes : c1 ≡ changes_all s0 c0 items
  pub said : Goes (Says (said_for s0 items)) old new
  pub steps : Goes (Steps s0 c0 items) old new
  pub done : flag ≡ (so_far && list_all is_done (replies_from s0 items))

-- whatever follows, what is put is a prefix of the replies to all items, and all but the last of those are answered whole
pub record PrefixOfAll (ended : Bool) (n : ℕ) (s : State) (changed : ℕ) (rest : List ℕ) (old new : Tale) : Type 0 where
  pub said : List ℕ
  pub says : Says said old new
  pub front : (v : List ℕ) → MayFollow ended v → Begins (said_for s (items_of n (rest ++ v))) said
  pub items : List Group
  pub next : List Group
  pub left : List ℕ
  pub gives : Gives ended n (items ++ next) rest left
  pub steps : StepsPrefix s changed items next old new

-- these items were answered, their replies are whole and no part of another is put, and a stop leaves the last edition that they gave
pub record StopsBetween (ended : Bool) (n : ℕ) (s : State) (rest : List ℕ) (old new : Tale) : Type 0 where
  pub items : List Group
  pub left : List ℕ
  pub gives : Gives ended n items rest left
  pub says : Says (said_for s items) old new
  pub leaves : LeavesNow new (λ image. Stands image (state_after s items).last)
