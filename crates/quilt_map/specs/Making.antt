-- What a command that was not refused before its quota leaves.
use Rattle.std.specs.Prelude.{◌≡◌, ℕ, ◌+◌, min, List, [], None}
use Rattle.quilt_types.specs.Facts.{changes}
use Rattle.quilt_types.specs.Layers.{Layer}
use Rattle.quilt_world.specs.declared.disk.Disk as disk
use Rattle.quilt_types.specs.declared.code.Code.{Code}
use Rattle.quilt_replies.specs.Answers.{State, Outcome, Refused, makes}
use Rattle.quilt_map.specs.Sessions.{IsAtState, last_count}
use Rattle.quilt_replies.specs.States.{Tells, after_outcome}
use Rattle.quilt_replies.specs.declared.reply.Reply.{Reply}
use Rattle.quilt_map.specs.declared.session.Session.{Session}

-- a refusal, which changes nothing
abbrev pub refused : State → Code → Outcome
refused s code = record { reply = Refused code; work = s.work; published = None }

-- the layer stands under the name, unless the quota refuses it
abbrev pub layer_placed : State → List ℕ → Layer → Outcome
layer_placed s name layer = makes s [] name layer

module _ {W : Type 0} {D : disk.Ghosts W} where
  -- the reply, the state and the count of changes are those of the outcome, which gives no edition
  pub record AnsweredBy (s : State) (out : Outcome) (old new : Session W D) (reply : Reply) : Type 0 where
    pub tells : Tells reply out.reply
    pub at : IsAtState new (after_outcome s out)
    pub count : new.changes ≡ min (old.changes + changes s.last.level s.work out.work) last_count
