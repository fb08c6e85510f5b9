use Rattle.quilt_pool.specs.Lending.{edited_pool}
use Rattle.quilt_pool.proofs.pool.Pool.lend.Goals as goal

pub invariant_of-self-lent : goal.invariant_of-self-lent
invariant_of-self-lent c = λ w. let p = edited_pool c.args.self.now c.args.page w in (p.distinct, (p.fits, (p.least, (p.listed, tt))))
