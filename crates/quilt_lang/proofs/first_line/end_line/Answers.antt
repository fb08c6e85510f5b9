use Rattle.std.proofs.Common.{◌∙◌, sym}
use Rattle.quilt_lang.proofs.Groups.{cuts_last, no_more, no_whole, some_bytes}
use Rattle.quilt_lang.proofs.first_line.end_line.Goals as goal

pub returns-then-is_empty-clause-found : goal.returns-then-is_empty-clause-found
returns-then-is_empty-clause-found c = no_more c.args.ended c.args.text.now (sym c.is_empty.ensures ∙ c.if-is_empty.true)

pub returns-then-not-ended-clause-found : goal.returns-then-not-ended-clause-found
returns-then-not-ended-clause-found c = no_whole c.args.ended c.args.text.now c.if-not-ended.true c.requires

pub returns-clause-found : goal.returns-clause-found
returns-clause-found c =
    cuts_last c.args.ended c.args.text.now c.if-not-ended.false c.requires (some_bytes c.args.text.now (sym c.is_empty.ensures ∙ c.if-is_empty.false))

pub returns-clause-some : goal.returns-clause-some
returns-clause-some c = some_bytes c.args.text.now (sym c.is_empty.ensures ∙ c.if-is_empty.false)
