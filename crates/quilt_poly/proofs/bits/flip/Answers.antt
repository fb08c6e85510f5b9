use Rattle.quilt_poly.proofs.Flips.{bit_in-flipped, bit_in-others}
use Rattle.quilt_poly.proofs.bits.flip.Goals as goal

pub returns-clause-there : goal.returns-clause-there
returns-clause-there c =
    bit_in-flipped c.args.words.now c.args.side c.args.y c.args.x c.requires.room c.requires.in_y c.requires.in_x

pub returns-clause-elsewhere : goal.returns-clause-elsewhere
returns-clause-elsewhere c j i hj hi other =
    bit_in-others c.args.words.now c.args.side c.args.y c.args.x c.requires.room c.requires.in_y c.requires.in_x j i hj other
