use Rattle.std.proofs.Common.{◌-◌, List, ℕ, drop, length, take}
use Rattle.quilt_words.proofs.Slices.{behind}
use Rattle.quilt_lang.proofs.RowsOver.{row_other, row_read}
use Rattle.quilt_lang.proofs.rows.read_row_at.Goals as goal

pub returns-then-not-read_row-clause-read : goal.returns-then-not-read_row-clause-read
returns-then-not-read_row-clause-read c =
    let text : List ℕ = c.args.text.now in
    let from = c.args.from in
    row_other c.args.format c.args.width text (take (length text - from) (drop from text)) from c.in-Some.len (behind from text)
    (rw c.in-Some.is at c.first_line.ensures.found) (rw c.if-not-read_row.true at c.read_row.ensures.read)

pub returns-clause-read : goal.returns-clause-read
returns-clause-read c =
    let text : List ℕ = c.args.text.now in
    let from = c.args.from in
    row_read c.args.format c.args.width text (take (length text - from) (drop from text)) c.read_row.new.bytes from c.in-Some.len c.min.result (behind from text)
    c.min.ensures (rw c.in-Some.is at c.first_line.ensures.found) (rw c.if-not-read_row.false at c.read_row.ensures.read)
