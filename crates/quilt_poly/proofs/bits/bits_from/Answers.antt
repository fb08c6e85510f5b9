use Rattle.quilt_poly.proofs.Words.{bit_in-part}
use Rattle.quilt_poly.proofs.bits.bits_from.Goals as goal

pub returns-clause-bits : goal.returns-clause-bits
returns-clause-bits c j lt =
    bit_in-part c.args.words.now c.args.side c.args.y c.args.x c.args.count j c.requires.one_word c.requires.few lt
