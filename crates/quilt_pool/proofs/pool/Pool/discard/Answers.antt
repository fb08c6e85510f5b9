use Rattle.quilt_pool.proofs.Dirt.{dirt_removed}
use Rattle.quilt_pool.proofs.pool.Pool.discard.Goals as goal

pub invariant_of-self-clause-listed : goal.invariant_of-self-clause-listed
invariant_of-self-clause-listed c =
    let s = c.args.self.now in
    rw c.drop_frame.ensures.entries (λ i d. s.listed i (dirt_removed c.args.page s.table.entries i s.distinct d))
