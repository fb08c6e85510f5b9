use Rattle.std.proofs.Common.{◌&&◌, eqb, ltb, arith}
use Rattle.std.proofs.lemmas.Bool.{and_right, le-ltb}
use Rattle.quilt_poly.proofs.Marks.{IsMarked-row, IsMarked-none}
use Rattle.quilt_poly.proofs.bits.mark_row.Goals as goal

pub returns-then-column-gt0 : goal.returns-then-column-gt0
returns-then-column-gt0 c =
    let some = c.if-column-gt0.true in
    let in_y = c.requires.in_y in
    let least = c.last_column.ensures in
    IsMarked-row c.args.side c.args.y c.last_column.result c.args.column c.args.words.now c.flip.new.words
    (omega arith) c.flip.ensures.there c.flip.ensures.elsewhere (λ k lt le. omega arith) (λ k le. omega arith)

pub returns-else-column-gt0 : goal.returns-else-column-gt0
returns-else-column-gt0 c =
    let none = c.if-column-gt0.false in
    IsMarked-none c.args.side (λ p. eqb p.y c.args.y && ltb p.x c.args.column) c.args.words.now
    (λ p py. and_right (eqb p.y c.args.y) (ltb p.x c.args.column) (le-ltb p.x c.args.column (omega arith)))
