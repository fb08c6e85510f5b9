use Rattle.std.proofs.Common.{arith, sym, ◌∙◌}
use Rattle.quilt_lang.specs.Reading.{HasNewline, IsLine}
use Rattle.quilt_lang.proofs.Counts.{uncut_all, uncut_at}
use Rattle.quilt_lang.proofs.LineLaws.{begins_none}
use Rattle.quilt_lang.proofs.Pieces.{gives_cut_silent, begins_cut}
use Rattle.quilt_lang.proofs.first_line.first_of.Goals as goal

pub returns-in_default : goal.returns-in_default
returns-in_default c =
    let none : IsLine c.args.text.now = rw c.in_default.is at c.newline_behind.ensures in
    (begins_none c.args.text.now none, uncut_all c.args.text.now none)

pub returns-then-is_comment_line : goal.returns-then-is_comment_line
returns-then-is_comment_line c =
    let at : HasNewline c.args.text.now c.in-Some.k = rw c.in-Some.is at c.newline_behind.ensures in
    (omega arith, omega (arith, at.within), λ n. gives_cut_silent n c.args.text.now c.in-Some.k at (sym c.is_comment_line.ensures ∙ c.if-is_comment_line.true))

pub returns-else-is_comment_line : goal.returns-else-is_comment_line
returns-else-is_comment_line c =
    let at : HasNewline c.args.text.now c.in-Some.k = rw c.in-Some.is at c.newline_behind.ensures in
    (begins_cut c.args.text.now c.in-Some.k at ∙ sym c.is_comment_line.ensures ∙ c.if-is_comment_line.false, uncut_at c.args.text.now c.in-Some.k at)
