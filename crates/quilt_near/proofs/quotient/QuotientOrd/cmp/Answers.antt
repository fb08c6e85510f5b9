use Rattle.quilt_clip.proofs.Compared.{cross_given}
use Rattle.quilt_near.proofs.quotient.QuotientOrd.cmp.Goals as goal

pub returns-clause-value : goal.returns-clause-value
returns-clause-value c =
    (cross_given c.self.inside.num c.self.inside.den c.other.inside.num c.other.inside.den c.from.result c.from-2.result c.from-3.result
    c.from-4.result c.args.self.now c.args.other.now c.cmp.result c.self.invariant c.other.invariant c.self.view_is c.other.view_is
    c.from.ensures c.from-2.ensures c.from-3.ensures c.from-4.ensures c.cmp.ensures).0

pub returns-clause-cross : goal.returns-clause-cross
returns-clause-cross c =
    (cross_given c.self.inside.num c.self.inside.den c.other.inside.num c.other.inside.den c.from.result c.from-2.result c.from-3.result
    c.from-4.result c.args.self.now c.args.other.now c.cmp.result c.self.invariant c.other.invariant c.self.view_is c.other.view_is
    c.from.ensures c.from-2.ensures c.from-3.ensures c.from-4.ensures c.cmp.ensures).1
