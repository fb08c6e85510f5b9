-- What an answer is, by the definition of a run.
use Rattle.std.proofs.Common.{◌≡◌, ℕ, true, List, Result, Ok, Err, refl, sym, ◌∙◌, ap, subst}
use Rattle.quilt_types.specs.declared.code.Code.{Code}
use Rattle.quilt_words.specs.declared.command.Command.{Command}
use Rattle.quilt_words.specs.declared.item.Item.{Item}
use Rattle.quilt_words.specs.Items.{Group, held}
use Rattle.quilt_words.specs.Forms.{form}
use Rattle.quilt_replies.specs.Answers.{State, Refused, answer}
use Rattle.quilt_replies.specs.Runs.{outcome_of, text_of, is_done}
use Rattle.quilt_replies.specs.States.{Tells, after, after_outcome}
use Rattle.quilt_replies.specs.declared.reply.Reply as given_reply
use Rattle.quilt_replies.specs.declared.reply.Reply.TheVariants as reply
use Rattle.quilt_top.specs.Replies.{held_at, reply_to, state_then}

-- an item that spells no command
pub reply_no : (s : State) (item : Item) (code : Code) → form s.last.format item ≡ Err code → reply_to s item ≡ Refused code
unfolding reply_to
reply_no s item code is = ap (λ (r : Result Command Code). (outcome_of s r).reply) is

same_state : (s : State) → record { quota = s.quota; last = s.last; work = s.work } ≡ s
same_state s = refl

pub state_no : (s : State) (item : Item) (code : Code) → form s.last.format item ≡ Err code → state_then s item ≡ s
unfolding state_then
state_no s item code is = ap (λ (r : Result Command Code). after_outcome s (outcome_of s r)) is ∙ same_state s

-- an item that spells one
pub reply_is : (s : State) (item : Item) (c : Command) → form s.last.format item ≡ Ok c → reply_to s item ≡ (answer s c).reply
unfolding reply_to
reply_is s item c is = ap (λ (r : Result Command Code). (outcome_of s r).reply) is

pub state_is : (s : State) (item : Item) (c : Command) → form s.last.format item ≡ Ok c → state_then s item ≡ after s c
unfolding state_then
state_is s item c is = ap (λ (r : Result Command Code). after_outcome s (outcome_of s r)) is

-- what the session told
pub text_given : (s : State) (item : Item) (c : Command) (given : given_reply.Reply) (text : List ℕ) → form s.last.format item ≡ Ok c
    → Tells given (answer s c).reply → given ≡ reply.Ok text →
    (text ≡ text_of (reply_to s item)) × (true ≡ is_done (reply_to s item))
text_given s item c given text is tells ok =
    let told : Tells (reply.Ok text) (answer s c).reply = subst (λ r. Tells r (answer s c).reply) ok tells in
    (told.0 ∙ sym (ap text_of (reply_is s item c is)), sym (ap is_done (reply_is s item c is) ∙ told.1))

pub code_given : (s : State) (item : Item) (c : Command) (given : given_reply.Reply) (code : Code) → form s.last.format item ≡ Ok c
    → Tells given (answer s c).reply → given ≡ reply.No code →
    reply_to s item ≡ Refused code
code_given s item c given code is tells no_ = reply_is s item c is ∙ subst (λ r. Tells r (answer s c).reply) no_ tells

-- an item that was given
pub held_is : (f n : ℕ) (s : State) (group : Group) (item : Item) → item ≡ held f n group → s.last.format ≡ f → s.last.level ≡ n → item ≡ held_at s group
held_is f n s group item is format level = is ∙ sym (ap (λ (h : ℕ). held h s.last.level group) format ∙ ap (λ (k : ℕ). held f k group) level)
