use Rattle.std.proofs.Common.{◌∙◌, sym}
use Rattle.quilt_lang.specs.Cutting.{further_count}
use Rattle.quilt_words.proofs.Slices.{behind}
use Rattle.quilt_lang.proofs.Counts.{count_next, count_stops}
use Rattle.quilt_lang.proofs.line_count.count_lines.Goals as goal

pub returns-in_default-clause-stops : goal.returns-in_default-clause-stops
returns-in_default-clause-stops c = λ few.
    count_stops c.loop-what.cut.len c.args.text.now _ (behind c.loop-what.cut.len c.args.text.now) (rw c.in_default.is at c.newline_behind.ensures)

pub loop-what-preserved : goal.loop-what-preserved
loop-what-preserved c =
    count_next (further_count c.args.level c.args.what) c.in-Some.k c.loop-what.cut c.args.text.now _ c.loop-what.invariant
    (sym c.is_met.ensures ∙ c.loop-what-test.true)
    (behind c.loop-what.cut.len c.args.text.now) (rw c.in-Some.is at c.newline_behind.ensures)
