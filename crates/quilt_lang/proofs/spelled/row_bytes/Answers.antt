use Rattle.quilt_lang.proofs.Joins.{odd_row}
use Rattle.quilt_lang.proofs.spelled.row_bytes.Goals as goal

pub returns-then-line-ne0 : goal.returns-then-line-ne0
returns-then-line-ne0 c = odd_row c.args.line.now c.if-line-ne0.true
