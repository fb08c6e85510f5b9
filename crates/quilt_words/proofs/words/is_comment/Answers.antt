use Rattle.std.proofs.Common.{sym, ◌∙◌, ap}
use Rattle.quilt_words.proofs.Remarks.{remark_is, is_hash}
use Rattle.quilt_words.proofs.words.is_comment.Goals as goal

pub returns-in-None : goal.returns-in-None
returns-in-None c = sym (remark_is c.args.line.now ∙ ap is_hash (sym c.first_byte.ensures ∙ c.in-None.is))

pub returns-in-Some : goal.returns-in-Some
returns-in-Some c = sym (remark_is c.args.line.now ∙ ap is_hash (sym c.first_byte.ensures ∙ c.in-Some.is))
