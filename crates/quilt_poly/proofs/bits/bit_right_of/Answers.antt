use Rattle.quilt_poly.proofs.Words.{next_bit-is, next_bit-none}
use Rattle.quilt_poly.proofs.bits.bit_right_of.Goals as goal

pub returns-then-place-words : goal.returns-then-place-words
returns-then-place-words c =
    next_bit-is c.args.words.now c.args.side c.args.y c.args.strip c.requires.room c.requires.in_y c.if-place-words.true

pub returns-else-place-words : goal.returns-else-place-words
returns-else-place-words c =
    next_bit-none c.args.words.now c.args.side c.args.y c.args.strip c.requires.room c.requires.in_y c.if-place-words.false
