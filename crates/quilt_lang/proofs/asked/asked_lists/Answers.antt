use Rattle.std.proofs.Common.{◌∙◌, sym, arith}
use Rattle.quilt_lang.proofs.Asking.{asks_none, asks_points, asks_rings}
use Rattle.quilt_lang.proofs.asked.asked_lists.Goals as goal

pub returns-then-count-eq0 : goal.returns-then-count-eq0
returns-then-count-eq0 c = λ n. asks_none n _ c.listed-count.result c.requires c.listed-count.ensures (omega arith)

pub returns-then-is_scatter : goal.returns-then-is_scatter
returns-then-is_scatter c =
    λ n. asks_points n _ c.listed-count.result c.requires c.listed-count.ensures (omega arith) (sym c.is_scatter.ensures ∙ c.if-is_scatter.true)

pub returns-else-is_scatter : goal.returns-else-is_scatter
returns-else-is_scatter c =
    λ n. asks_rings n _ c.listed-count.result c.requires c.listed-count.ensures (omega arith) (sym c.is_scatter.ensures ∙ c.if-is_scatter.false)
