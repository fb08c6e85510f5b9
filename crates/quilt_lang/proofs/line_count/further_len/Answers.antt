use Rattle.std.proofs.Common.{◌∙◌, sym}
use Rattle.quilt_lang.specs.Cutting.{further_count}
use Rattle.quilt_lang.proofs.Rasters.{counted_there, counted_end}
use Rattle.quilt_lang.proofs.line_count.further_len.Goals as goal

pub returns-then-is_met-clause-are : goal.returns-then-is_met-clause-are
returns-then-is_met-clause-are c =
    counted_there c.args.ended (further_count c.args.level c.args.what) c.count_lines-cut.result c.args.text.now c.count_lines-cut.ensures.is
    (sym c.is_met.ensures ∙ c.if-is_met.true) c.count_lines-cut.ensures.stops c.requires

pub returns-else-is_met-clause-are : goal.returns-else-is_met-clause-are
returns-else-is_met-clause-are c =
    counted_end c.args.ended (further_count c.args.level c.args.what) c.count_lines-cut.result c.args.text.now c.count_lines-cut.ensures.is
    (sym c.is_met.ensures ∙ c.if-is_met.false) c.count_lines-cut.ensures.all
