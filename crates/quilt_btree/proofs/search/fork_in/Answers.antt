use Rattle.std.proofs.Common.{◌-◌}
use Rattle.quilt_btree.proofs.ways.Forks.{inside, before_inside, no_page, first_fork, later_fork}
use Rattle.quilt_btree.proofs.search.fork_in.Goals as goal

pub returns-in-None-clause-fork : goal.returns-in-None-clause-fork
returns-in-None-clause-fork c = λ inner is. c.in-None.ensures.path inner is

pub returns-then-path-eq0-clause-fork : goal.returns-then-path-eq0-clause-fork
returns-then-path-eq0-clause-fork c = λ inner is.
    let w = c.in-Some.ensures.path inner is in
    first_fork c.args.k.now inner c.in-Some.path.place c.in-Some.path.child w.1 w.0
    w.2 c.if-path-eq0.true

pub returns-then-prior-lt1-clause-fork : goal.returns-then-prior-lt1-clause-fork
returns-then-prior-lt1-clause-fork c = λ inner is.
    let w = c.in-Some.ensures.path inner is in
    let p = inside c.args.pages c.args.bytes.now inner (c.in-Some.path.place - 1) c.child_in-prior.result is
    (before_inside c.args.pages c.args.bytes.now inner c.args.k.now c.in-Some.path.place is w.1) (c.child_in-prior.ensures.inner c.args.pages inner is) in
    no_page c.args.pages c.child_in-prior.result c.then-prior-lt1.either p.least p.most

pub returns-clause-fork : goal.returns-clause-fork
returns-clause-fork c = λ inner is.
    let w = c.in-Some.ensures.path inner is in
    later_fork c.args.k.now inner c.in-Some.path.place c.in-Some.path.child c.child_in-prior.result w.1 w.0
    w.2 c.if-path-eq0.false
    (c.child_in-prior.ensures.inner c.args.pages inner is (before_inside c.args.pages c.args.bytes.now inner c.args.k.now c.in-Some.path.place is w.1))
