use Rattle.std.proofs.Common.{◌≡◌, ◌∙◌, sym, ap, subst, Ok, Err}
use Rattle.quilt_replies.specs.declared.reply.Reply as given_reply
use Rattle.quilt_words.specs.Forms.{form}
use Rattle.quilt_replies.specs.Answers.{State}
use Rattle.quilt_replies.specs.Runs.{text_of, is_done}
use Rattle.quilt_map.specs.Sessions.{IsAt}
use Rattle.quilt_map.proofs.Laws.{at_format}
use Rattle.quilt_replies.specs.States.{IsRefusal}
use Rattle.quilt_types.specs.declared.stop.Stop.{Stop}
use Rattle.quilt_types.specs.declared.stop.Stop.TheVariants as stops
use Rattle.quilt_top.specs.declared.halt.Halt.TheVariants as halts
use Rattle.quilt_top.proofs.turns.Applying.{leaves_told, applies_nothing, applies_command, leaves_last, changes_no, changes_is}
use Rattle.quilt_top.proofs.logs.Said.{if_err_const}
use Rattle.quilt_top.proofs.turns.Outcomes.{reply_no, state_no, state_is, text_given, code_given}
use Rattle.quilt_top.proofs.answer.answer_item.Goals as goal

pub returns-in-Err-clause-text : goal.returns-in-Err-clause-text
returns-in-Err-clause-text g c = λ item said s at.
    let is : form s.last.format item ≡ Err c.in-Err.code = ap (λ f. form f item) (at_format c.args.session.now s at) ∙ said ∙ c.in-Err.is in
    c.in_ok-refusal-in-Err.ensures.0
    ∙ sym (ap text_of (reply_no s item c.in-Err.code is))

pub returns-in-Err-clause-done : goal.returns-in-Err-clause-done
returns-in-Err-clause-done g c = λ item said s at.
    let is : form s.last.format item ≡ Err c.in-Err.code = ap (λ f. form f item) (at_format c.args.session.now s at) ∙ said ∙ c.in-Err.is in
    c.in_ok-refusal-in-Err.ensures.1
    ∙ sym (ap is_done (reply_no s item c.in-Err.code is))

pub returns-in-Err-clause-at : goal.returns-in-Err-clause-at
returns-in-Err-clause-at g c = λ item said s at.
    let is : form s.last.format item ≡ Err c.in-Err.code = ap (λ f. form f item) (at_format c.args.session.now s at) ∙ said ∙ c.in-Err.is in
    subst (λ (t : State). IsAt c.args.session.now t)
    (sym (state_no s item c.in-Err.code is)) at

pub returns-in-Ok-reply-clause-text : goal.returns-in-Ok-reply-clause-text
returns-in-Ok-reply-clause-text g c = λ item said s at.
    let is : form s.last.format item ≡ Ok c.in-Ok.command = ap (λ f. form f item) (at_format c.args.session.now s at) ∙ said ∙ c.in-Ok.is in
    (text_given s item c.in-Ok.command c.in-Ok-apply.reply c.in-Ok-reply.text is (c.in-Ok-apply.ensures.answer s at).0 c.in-Ok-reply.is).0

pub returns-in-Ok-reply-clause-done : goal.returns-in-Ok-reply-clause-done
returns-in-Ok-reply-clause-done g c = λ item said s at.
    let is : form s.last.format item ≡ Ok c.in-Ok.command = ap (λ f. form f item) (at_format c.args.session.now s at) ∙ said ∙ c.in-Ok.is in
    (text_given s item c.in-Ok.command c.in-Ok-apply.reply c.in-Ok-reply.text is (c.in-Ok-apply.ensures.answer s at).0 c.in-Ok-reply.is).1

pub returns-in-Ok-reply-clause-at : goal.returns-in-Ok-reply-clause-at
returns-in-Ok-reply-clause-at g c = λ item said s at.
    let is : form s.last.format item ≡ Ok c.in-Ok.command = ap (λ f. form f item) (at_format c.args.session.now s at) ∙ said ∙ c.in-Ok.is in
    subst (λ (t : State). IsAt c.apply.new.self t) (sym (state_is s item c.in-Ok.command is)) (c.in-Ok-apply.ensures.answer s at).1

pub returns-clause-text : goal.returns-clause-text
returns-clause-text g c = λ item said s at.
    let is : form s.last.format item ≡ Ok c.in-Ok.command = ap (λ f. form f item) (at_format c.args.session.now s at) ∙ said ∙ c.in-Ok.is in
    c.in_ok-refusal-in-No.ensures.0
    ∙ sym (ap text_of (code_given s item c.in-Ok.command c.in-Ok-apply.reply c.in-No.code is (c.in-Ok-apply.ensures.answer s at).0 c.in-No.is))

pub returns-clause-done : goal.returns-clause-done
returns-clause-done g c = λ item said s at.
    let is : form s.last.format item ≡ Ok c.in-Ok.command = ap (λ f. form f item) (at_format c.args.session.now s at) ∙ said ∙ c.in-Ok.is in
    c.in_ok-refusal-in-No.ensures.1
    ∙ sym (ap is_done (code_given s item c.in-Ok.command c.in-Ok-apply.reply c.in-No.code is (c.in-Ok-apply.ensures.answer s at).0 c.in-No.is))

pub returns-clause-at : goal.returns-clause-at
returns-clause-at g c = λ item said s at.
    let is : form s.last.format item ≡ Ok c.in-Ok.command = ap (λ f. form f item) (at_format c.args.session.now s at) ∙ said ∙ c.in-Ok.is in
    subst (λ (t : State). IsAt c.apply.new.self t) (sym (state_is s item c.in-Ok.command is)) (c.in-Ok-apply.ensures.answer s at).1

-- ---- what is applied

pub returns-in_err-refusal-in-Err-clause-applies : goal.returns-in_err-refusal-in-Err-clause-applies
returns-in_err-refusal-in-Err-clause-applies g c = λ item said s at. applies_nothing s item _ _ (leaves_told c.args.session.now s at)

pub returns-in-Err-clause-applies : goal.returns-in-Err-clause-applies
returns-in-Err-clause-applies g c = λ item said s at. applies_nothing s item _ _ (leaves_told c.args.session.now s at)

pub returns-in-Err-apply-clause-applies : goal.returns-in-Err-apply-clause-applies
returns-in-Err-apply-clause-applies g c = λ item said s at.
    let is : form s.last.format item ≡ Ok c.in-Ok.command = ap (λ f. form f item) (at_format c.args.session.now s at) ∙ said ∙ c.in-Ok.is in
    applies_command s item c.in-Ok.command _ _ _ is c.apply.ensures.events (c.apply.ensures.crash s at) (c.apply.ensures.writes s at)

pub returns-in-Ok-reply-clause-applies : goal.returns-in-Ok-reply-clause-applies
returns-in-Ok-reply-clause-applies g c = λ item said s at.
    let is : form s.last.format item ≡ Ok c.in-Ok.command = ap (λ f. form f item) (at_format c.args.session.now s at) ∙ said ∙ c.in-Ok.is in
    applies_command s item c.in-Ok.command _ _ _ is c.apply.ensures.events (c.apply.ensures.crash s at) (c.apply.ensures.writes s at)

pub returns-in_err-refusal-in-No-clause-applies : goal.returns-in_err-refusal-in-No-clause-applies
returns-in_err-refusal-in-No-clause-applies g c = λ item said s at.
    let is : form s.last.format item ≡ Ok c.in-Ok.command = ap (λ f. form f item) (at_format c.args.session.now s at) ∙ said ∙ c.in-Ok.is in
    applies_command s item c.in-Ok.command _ _ _ is c.apply.ensures.events (c.apply.ensures.crash s at) (c.apply.ensures.writes s at)

pub returns-clause-applies : goal.returns-clause-applies
returns-clause-applies g c = λ item said s at.
    let is : form s.last.format item ≡ Ok c.in-Ok.command = ap (λ f. form f item) (at_format c.args.session.now s at) ∙ said ∙ c.in-Ok.is in
    applies_command s item c.in-Ok.command _ _ _ is c.apply.ensures.events (c.apply.ensures.crash s at) (c.apply.ensures.writes s at)

-- ---- how many records were changed

pub returns-in-Err-clause-changes : goal.returns-in-Err-clause-changes
returns-in-Err-clause-changes g c = λ item said s at.
    let is : form s.last.format item ≡ Err c.in-Err.code = ap (λ f. form f item) (at_format c.args.session.now s at) ∙ said ∙ c.in-Err.is in
    sym (changes_no s item c.in-Err.code _ is)

pub returns-in-Ok-reply-clause-changes : goal.returns-in-Ok-reply-clause-changes
returns-in-Ok-reply-clause-changes g c = λ item said s at.
    let is : form s.last.format item ≡ Ok c.in-Ok.command = ap (λ f. form f item) (at_format c.args.session.now s at) ∙ said ∙ c.in-Ok.is in
    c.in-Ok-apply.ensures.changes s at ∙ sym (changes_is s item c.in-Ok.command _ is)

pub returns-clause-changes : goal.returns-clause-changes
returns-clause-changes g c = λ item said s at.
    let is : form s.last.format item ≡ Ok c.in-Ok.command = ap (λ f. form f item) (at_format c.args.session.now s at) ∙ said ∙ c.in-Ok.is in
    c.in-Ok-apply.ensures.changes s at ∙ sym (changes_is s item c.in-Ok.command _ is)

-- ---- where a page is damaged

pub returns-in-Err-apply-clause-damaged : goal.returns-in-Err-apply-clause-damaged
returns-in-Err-apply-clause-damaged g c = λ page is s at. c.in-Err-apply.ensures.damaged page (same_stop c.in-Err-apply.stop (stops.Damaged page) is) s at
  where
    same_stop : (a b : Stop) → halts.Stopped a ≡ halts.Stopped b → a ≡ b
    same_stop a b e = cc

-- ---- where memory was wanted

pub returns-in_err-refusal-in-Err-clause-left : goal.returns-in_err-refusal-in-Err-clause-left
returns-in_err-refusal-in-Err-clause-left g c = if_err_const _ _ _ (λ item said s at. leaves_told c.args.session.now s at)

pub returns-in-Err-apply-clause-left : goal.returns-in-Err-apply-clause-left
returns-in-Err-apply-clause-left g c = λ is item said s at.
    leaves_last s c.in-Ok.command _ _
    (λ gives. ap (λ w. g.W.Disk.told w) (c.in-Err-apply.ensures.quiet (same_stop c.in-Err-apply.stop stops.Memory is) gives))
    (c.apply.ensures.crash s at) (leaves_told c.args.session.now s at)
  where
    same_stop : (a b : Stop) → halts.Stopped a ≡ halts.Stopped b → a ≡ b
    same_stop a b e = cc

pub returns-in_err-refusal-in-No-clause-left : goal.returns-in_err-refusal-in-No-clause-left
returns-in_err-refusal-in-No-clause-left g c =
    if_err_const _ _ _ (λ item said s at.
    leaves_told c.apply.new.self s
    (c.in-Ok-apply.ensures.refused (subst (λ (r : given_reply.Reply). IsRefusal r) (sym c.in-No.is) tt) s at))
