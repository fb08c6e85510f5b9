use Rattle.std.proofs.Common.{◌∙◌, sym}
use Rattle.quilt_lang.proofs.Asking.{asks_rows}
use Rattle.quilt_lang.proofs.asked.asked_by_words.Goals as goal

pub returns-then-is_raster : goal.returns-then-is_raster
returns-then-is_raster c = λ n. asks_rows n _ (sym c.is_raster.ensures ∙ c.if-is_raster.true)
