use Rattle.std.proofs.lemmas.Result.{IfOk-weaker}
use Rattle.quilt_replies.proofs.RefusalTexts.{told, refused}
use Rattle.quilt_replies.proofs.reply.Reply.into_text.Goals as goal

pub returns-in-No-clause-told : goal.returns-in-No-clause-told
returns-in-No-clause-told c = IfOk-weaker c.refusal_text.result _ _ (λ text is. told c.args.self c.in-No.code text c.in-No.is is) c.refusal_text.ensures

pub returns-in-No-clause-refused : goal.returns-in-No-clause-refused
returns-in-No-clause-refused c = IfOk-weaker c.refusal_text.result _ _ (λ text is. refused c.args.self c.in-No.code text c.in-No.is is) c.refusal_text.ensures
