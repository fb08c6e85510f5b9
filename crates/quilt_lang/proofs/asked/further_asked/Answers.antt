use Rattle.std.proofs.Common.{◌∙◌, sym, arith, length}
use Rattle.std.proofs.lemmas.Bool.{lt-ltb, le-ltb}
use Rattle.quilt_words.specs.Items.{line_limit}
use Rattle.quilt_lang.proofs.Asking.{line_long, line_odd, line_other, line_asks}
use Rattle.quilt_lang.proofs.asked.further_asked.Goals as goal

pub returns-then-not-begins_asking : goal.returns-then-not-begins_asking
returns-then-not-begins_asking c = λ n. line_other n c.args.line.now (sym c.begins_asking.ensures ∙ c.if-not-begins_asking.true)

pub returns-then-line-gt-LINE_LIMIT : goal.returns-then-line-gt-LINE_LIMIT
returns-then-line-gt-LINE_LIMIT c = λ n. line_long n c.args.line.now (lt-ltb line_limit (length c.args.line.now) (omega arith))

pub returns-then-not-is_plain_line : goal.returns-then-not-is_plain_line
returns-then-not-is_plain_line c = λ n. line_odd n c.args.line.now (sym c.is_plain_line.ensures ∙ c.if-not-is_plain_line.true)

pub returns : goal.returns
returns c = λ n.
    line_asks n c.args.line.now _ c.asked_by_words.result (le-ltb line_limit (length c.args.line.now) (omega arith))
    (sym c.is_plain_line.ensures ∙ c.if-not-is_plain_line.false) (c.asked_by_words.ensures n) (rw c.deref.ensures.value c.in_ok-words.ensures)
