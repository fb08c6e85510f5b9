use Rattle.quilt_poly.proofs.Words.{all_ones}
use Rattle.quilt_poly.proofs.bits.same_bits.Goals as goal

pub returns-then-bits-count-clause-some : goal.returns-then-bits-count-clause-some
returns-then-bits-count-clause-some c j lt = all_ones c.args.bits c.args.count j c.if-bits-count.true c.requires.few lt
