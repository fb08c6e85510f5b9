use Rattle.std.proofs.Common.{sym, ◌∙◌, arith, length}
use Rattle.std.proofs.lemmas.List.{take_all}
use Rattle.quilt_lang.proofs.Pieces.{none_ended, none_open}
use Rattle.quilt_lang.proofs.Groups.{cuts_last, loud_some}
use Rattle.quilt_lang.proofs.first_line.last_len.Goals as goal
use Rattle.quilt_lang.proofs.first_line.last_len.Goals.{then-not-ended-via-then-not-ended, then-not-ended-via-else-not-ended+then-is_comment_line}

pub returns-then-not-ended-clause-found : goal.returns-then-not-ended-clause-found
returns-then-not-ended-clause-found c = (
  c.requires,
  λ n.
      elim c.then-not-ended.branch [
        | then-not-ended-via-then-not-ended w ↦
            rw w.if-not-ended.true (none_open n c.args.text.now c.requires)
        | then-not-ended-via-else-not-ended+then-is_comment_line w
            ↦ none_ended c.args.ended n c.args.text.now c.requires (sym w.is_comment_line.ensures ∙ w.if-is_comment_line.true)
      ],
)

pub returns-clause-found : goal.returns-clause-found
returns-clause-found c = cuts_last c.args.ended c.args.text.now c.if-not-ended.false c.requires
    (loud_some c.args.text.now (sym c.is_comment_line.ensures ∙ c.if-is_comment_line.false))

pub returns-clause-loud : goal.returns-clause-loud
returns-clause-loud c = rw (take_all (length c.args.text.now) c.args.text.now (omega arith)) (sym c.is_comment_line.ensures ∙ c.if-is_comment_line.false)
