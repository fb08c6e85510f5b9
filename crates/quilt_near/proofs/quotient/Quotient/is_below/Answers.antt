use Rattle.quilt_clip.proofs.Compared.{below_given}
use Rattle.quilt_near.proofs.quotient.Quotient.is_below.Goals as goal

pub returns : goal.returns
returns c = below_given c.self.inside.num c.self.inside.den c.args.whole _ _ _ c.args.self.now c.self.invariant c.self.view_is c.from.ensures
    c.from-2.ensures c.from-3.ensures
