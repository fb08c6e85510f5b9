-- What answering a command is, and the state that it leaves.
use Rattle.std.specs.Prelude.{◌≡◌, true, unwrap_or}
use Rattle.quilt_words.specs.declared.command.Command.{Command}
use Rattle.quilt_replies.specs.Answers.{State, Outcome, Refused, answer}
use Rattle.quilt_replies.specs.Runs.{text_of, is_done}
use Rattle.quilt_replies.specs.Answers as answers
use Rattle.quilt_replies.specs.declared.reply.Reply as replies
use Rattle.quilt_replies.specs.declared.reply.Reply.TheVariants as reply

-- the text of the reply, or its code
abbrev pub Tells : replies.Reply → answers.Reply → Type 0
Tells (reply.Ok text) r = (text ≡ text_of r) × (is_done r ≡ true)
Tells (reply.No code) r = r ≡ Refused code

-- the reply, the new work and the last edition are those of the definition
pub record IsAnswer (s : State) (command : Command) (given : replies.Reply) (after : State) : Type 0 where
  pub reply : Tells given (answer s command).reply
  pub work : after.work ≡ (answer s command).work
  pub last : after.last ≡ unwrap_or (answer s command).published s.last

-- the state after an outcome
abbrev pub after_outcome : State → Outcome → State
after_outcome s out = record { quota = s.quota; last = unwrap_or out.published s.last; work = out.work }

-- the state after a command
abbrev pub after : State → Command → State
after s command = after_outcome s (answer s command)

-- the reply is a refusal
abbrev pub IsRefusal : replies.Reply → Type 0
IsRefusal (reply.Ok text) = ⊥
IsRefusal (reply.No code) = Unit {0}
