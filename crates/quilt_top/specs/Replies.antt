-- The replies to items, one after another.
use Rattle.std.specs.Prelude.{ℕ, List, [], ◌∷◌}
use Rattle.quilt_words.specs.declared.item.Item.{Item}
use Rattle.quilt_words.specs.Items.{Group, held}
use Rattle.quilt_words.specs.Forms.{form}
use Rattle.quilt_replies.specs.Answers.{State, Outcome, Reply}
use Rattle.quilt_replies.specs.Runs.{outcome_of, output}
use Rattle.quilt_replies.specs.States.{after_outcome}

-- what lines hold in the format of the last edition
abbrev pub held_at : State → Group → Item
held_at s group = held s.last.format s.last.level group

-- what an item comes to in a state: its reply, the work after it, and the edition that it gives
abbrev pub outcome : State → Item → Outcome
outcome s item = outcome_of s (form s.last.format item)

-- the reply to an item in a state
unfoldable pub reply_to : State → Item → Reply
reply_to s item = (outcome s item).reply

-- the state after an item
unfoldable pub state_then : State → Item → State
state_then s item = after_outcome s (outcome s item)

-- the state after these items
abbrev pub state_after : State → List Group → State
state_after s [] = s
state_after s (group ∷ groups) = state_after (state_then s (held_at s group)) groups

-- the replies to these items, one after another
abbrev pub replies_from : State → List Group → List Reply
replies_from s [] = []
replies_from s (group ∷ groups) = reply_to s (held_at s group) ∷ replies_from (state_then s (held_at s group)) groups

-- what is put for these items
unfoldable pub said_for : State → List Group → List ℕ
said_for s items = output (replies_from s items)
