use Rattle.std.proofs.Common.{◌∙◌, sym}
use Rattle.std.proofs.lemmas.Result.{IfOk-weaker}
use Rattle.quilt_lang.proofs.Asking.{rows_all, rows_other}
use Rattle.quilt_lang.proofs.held.rows_in.Goals as goal

pub returns-then-not-is_side : goal.returns-then-not-is_side
returns-then-not-is_side c = rows_other c.args.format c.args.level (λ w. w.now) c.args.more.now (sym c.is_side.ensures ∙ c.if-not-is_side.true)

pub returns : goal.returns
returns c =
    IfOk-weaker c.raster_rows.result _ _ (λ rows is. is
    ∙ rows_all c.args.format c.args.level (λ w. w.now) c.args.more.now (sym c.is_side.ensures ∙ c.if-not-is_side.false)) c.raster_rows.ensures
