use Rattle.std.proofs.Common.{◌≡◌, ◌*◌, length, take, drop}
use Rattle.quilt_types.specs.Plane.{side}
use Rattle.quilt_words.specs.Items.{lines_of, rows_of}
use Rattle.quilt_lang.specs.Spelled.{row_size}
use Rattle.quilt_lang.proofs.RowsOver.{ReadOver}
use Rattle.quilt_lang.proofs.rows.read_rows.Given as goal

abbrev pub invariant-loop-left : goal.invariant-loop-left
invariant-loop-left l = record {
  room : length l.room ≡ row_size l.format (2 * l.format * l.width);
  is : ReadOver l.format l.width l.left l.src l.dst l.bytes (rows_of l.format l.level (take (side l.level) (lines_of (drop l.from l.initial.bytes))));
}

abbrev pub decreases-loop-left : goal.decreases-loop-left
decreases-loop-left l = l.left
