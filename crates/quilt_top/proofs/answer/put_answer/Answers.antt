use Rattle.std.proofs.Common.{◌≡◌, ◌∙◌, List, ℕ, subst}
use Rattle.quilt_world.specs.Tale.{Goes}
use Rattle.quilt_world.proofs.Told.{goes_weaker}
use Rattle.quilt_words.specs.declared.item.Item.{Item}
use Rattle.quilt_words.specs.Forms.{form}
use Rattle.quilt_replies.specs.Answers.{State}
use Rattle.quilt_replies.specs.Runs.{text_of}
use Rattle.quilt_map.specs.Sessions.{session_world, format_of, changes_of, IsAt}
use Rattle.quilt_types.specs.declared.stop.Stop.TheVariants as stops
use Rattle.quilt_top.specs.declared.halt.Halt.{Halt}
use Rattle.quilt_top.specs.declared.halt.Halt.TheVariants as halts
use Rattle.quilt_top.specs.Answering.{PutsNone}
use Rattle.quilt_top.specs.Replies.{reply_to, state_then}
use Rattle.quilt_top.specs.Saying.{Says}
use Rattle.quilt_top.proofs.turns.Applying.{leaves_told, none_put, answers_put, part_put, puts_none}
use Rattle.quilt_top.proofs.logs.Said.{on_err_each, err_from}
use Rattle.quilt_top.proofs.answer.put_answer.Goals as goal

pub returns-in_err-answer-clause-part : goal.returns-in_err-answer-clause-part
returns-in_err-answer-clause-part g c =
    on_err_each {S = State} {T = Item} _ _ _ _
    (λ item said s at. goes_weaker _ _ _ _ (c.answer_item.ensures.applies item said s at)
    (λ t u applies. none_put s item (changes_of c.args.session.now) t u applies))

pub returns-in_err-put_reply-clause-part : goal.returns-in_err-put_reply-clause-part
returns-in_err-put_reply-clause-part g c =
    on_err_each {S = State} {T = Item} _ _ _ _ (λ item said s at.
    let now = c.in_ok-answer.ensures.at item said s at in
    part_put s item _ c.bytes.result.now _ _ _ (c.bytes.ensures ∙ c.in_ok-answer.ensures.text item said s at) (c.answer_item.ensures.applies item said s at)
    (leaves_told c.answer_item.new.session (state_then s item) now) c.in_err-put_reply.ensures.part c.put_reply.ensures.text)

pub returns-clause-said : goal.returns-clause-said
returns-clause-said g c = λ item said s at.
    let now = c.in_ok-answer.ensures.at item said s at in
    let text : c.bytes.result.now ≡ text_of (reply_to s item) = c.bytes.ensures ∙ c.in_ok-answer.ensures.text item said s at in
    let says =
    subst (λ (l : List ℕ). Goes (Says l) (g.W.Disk.told (session_world c.answer_item.new.session)) (g.W.Disk.told (session_world c.put_reply.new.session)))
    text c.in_ok-put_reply.ensures.said in
    answers_put s item _ (text_of (reply_to s item)) _ _ _ (c.answer_item.ensures.applies item said s at)
    (leaves_told c.answer_item.new.session (state_then s item) now) says c.put_reply.ensures.text

pub returns-in_err-answer-clause-none : goal.returns-in_err-answer-clause-none
returns-in_err-answer-clause-none g c =
    let None = λ (e : Halt). e ≡ halts.Stopped stops.Memory → (item : Item) → form (format_of c.args.session.now) item ≡ c.args.spelled → (s : State)
    → IsAt c.args.session.now s → Goes (PutsNone s) (g.W.Disk.told (session_world c.args.session.now)) (g.W.Disk.told (session_world c.answer_item.new.session)) in
    let here : None c.in_err-answer.field-0.0 = λ is item said s at.
    puts_none s item _ _ _ (c.answer_item.ensures.applies item said s at) (c.in_err-answer.ensures.left is item said s at) in
    err_from _ c.in_err-answer.field-0.0 _ None c.from_residual.ensures.1 (λ e is. is) here
