use Rattle.std.proofs.Common.{◌∙◌}
use Rattle.quilt_store.proofs.Reading.{only_reads_then, only_reads_ok, only_reads_err}
use Rattle.quilt_btree.proofs.stores.Looks.{only_reads_handed}
use Rattle.quilt_btree.proofs.cursors.Lowers.{lower_here, lower_none, lower_before}
use Rattle.quilt_btree.proofs.subtrees.Descending.{along_told}
use Rattle.quilt_btree.proofs.ways.Looked.{read_of, read_on, fork_shown}
use Rattle.quilt_btree.proofs.ways.Damage.{bad_below, child_at}
use Rattle.quilt_btree.proofs.Handed.{handed_on}
use Rattle.quilt_btree.proofs.lower.+lower_under.Goals as goal

pub returns-in_err-r-clause-sound : goal.returns-in_err-r-clause-sound
returns-in_err-r-clause-sound g t c =
    rw (handed_on c.from_residual-in_err-r.result c.from_residual-in_err-r.ensures.1) (λ rs s.
    let a = fork_shown c.in_ok-fork.ensures.looks c.requires.height c.if-height-eq1.false (g.met.S.PageStore.as_many c.args.store.now) c.in_ok-fork.ensures.shows s in
    c.in_err-r.ensures.sound a.here a.spells)

pub returns-in-Some-clause-lower : goal.returns-in-Some-clause-lower
returns-in-Some-clause-lower g t c = λ rs s.
    let found = rw c.in-Some.is at c.in_ok-r.ensures.lower in
    let a = fork_shown c.in_ok-fork.ensures.looks c.requires.height c.if-height-eq1.false (g.met.S.PageStore.as_many c.args.store.now) c.in_ok-fork.ensures.shows s in
    lower_here c.in-Some.r a.at found rs s

pub returns-in-None-prior-clause-lower : goal.returns-in-None-prior-clause-lower
returns-in-None-prior-clause-lower g t c = λ rs s.
    let found = rw c.in-None.is at c.in_ok-r.ensures.lower in
    let a = fork_shown c.in_ok-fork.ensures.looks c.requires.height c.if-height-eq1.false (g.met.S.PageStore.as_many c.args.store.now) c.in_ok-fork.ensures.shows s in
    lower_none a.at (a.first c.in-None-prior.is) found rs s

pub returns-in_err-last_under-in-Some-prior-clause-sound : goal.returns-in_err-last_under-in-Some-prior-clause-sound
returns-in_err-last_under-in-Some-prior-clause-sound g t c =
    rw (handed_on c.from_residual-in_err-last_under-in-Some-prior.result c.from_residual-in_err-last_under-in-Some-prior.ensures.1) (λ rs s.
    let a = fork_shown c.in_ok-fork.ensures.looks c.requires.height c.if-height-eq1.false (g.met.S.PageStore.as_many c.args.store.now) c.in_ok-fork.ensures.shows s in
    let p = a.later c.in-Some-prior.prior c.in-Some-prior.is in
    let there = along_told _ _ _ _ _ (c.in_ok-r.ensures.left.told ∙ c.in_ok-fork.ensures.looks.left.told) p.spells in
    c.in_err-last_under-in-Some-prior.ensures.sound p.here there)

pub returns-in_ok-last_under-in-Some-prior-clause-lower : goal.returns-in_ok-last_under-in-Some-prior-clause-lower
returns-in_ok-last_under-in-Some-prior-clause-lower g t c = λ rs s.
    let found = rw c.in-None.is at c.in_ok-r.ensures.lower in
    let a = fork_shown c.in_ok-fork.ensures.looks c.requires.height c.if-height-eq1.false (g.met.S.PageStore.as_many c.args.store.now) c.in_ok-fork.ensures.shows s in
    let p = a.later c.in-Some-prior.prior c.in-Some-prior.is in
    let there = along_told _ _ _ _ _ (c.in_ok-r.ensures.left.told ∙ c.in_ok-fork.ensures.looks.left.told) p.spells in
    lower_before c.in_ok-last_under-in-Some-prior.field-0 a.at p.some
    (c.in_ok-r.ensures.left.told ∙ c.in_ok-fork.ensures.looks.left.told) p.is found c.in_ok-last_under-in-Some-prior.ensures.last s

pub returns-in_err-fork-clause-sound : goal.returns-in_err-fork-clause-sound
returns-in_err-fork-clause-sound g t c =
    rw (handed_on c.from_residual.result c.from_residual.ensures.1)
    (λ rs s. c.in_err-fork.ensures.sound c.args.height rs c.requires.height c.if-height-eq1.false s)

pub returns-in_err-fork-clause-bad : goal.returns-in_err-fork-clause-bad
returns-in_err-fork-clause-bad g t c =
    rw (handed_on c.from_residual.result c.from_residual.ensures.1) (c.in_err-fork.ensures.bad c.args.height c.requires.height c.if-height-eq1.false)

pub returns-in_err-r-clause-bad : goal.returns-in_err-r-clause-bad
returns-in_err-r-clause-bad g t c =
    rw (handed_on c.from_residual-in_err-r.result c.from_residual-in_err-r.ensures.1)
    (bad_below c.in_ok-fork.fork.child _
    (read_of c.in_ok-fork.ensures.looks c.requires.height c.if-height-eq1.false (g.met.S.PageStore.as_many c.args.store.now) c.in_ok-fork.ensures.shows.are)
    c.in_ok-fork.ensures.shows.stands c.in_err-r.ensures.bad)

pub returns-in_err-last_under-in-Some-prior-clause-bad : goal.returns-in_err-last_under-in-Some-prior-clause-bad
returns-in_err-last_under-in-Some-prior-clause-bad g t c =
    rw (handed_on c.from_residual-in_err-last_under-in-Some-prior.result c.from_residual-in_err-last_under-in-Some-prior.ensures.1)
    (bad_below c.in-Some-prior.prior _
    (read_on c.in_ok-r.ensures.left.told
    (read_of c.in_ok-fork.ensures.looks c.requires.height c.if-height-eq1.false (g.met.S.PageStore.as_many c.args.store.now) c.in_ok-fork.ensures.shows.are))
    (child_at (g.S.PageStore.size c.args.store.now) c.in_ok-fork.ensures.shows.bytes c.in_ok-fork.fork.prior c.in-Some-prior.prior c.in-Some-prior.is
    c.in_ok-fork.ensures.shows.prior_stands) c.in_err-last_under-in-Some-prior.ensures.bad)

pub returns-in_err-last_under-in-Some-prior-clause-left : goal.returns-in_err-last_under-in-Some-prior-clause-left
returns-in_err-last_under-in-Some-prior-clause-left g t c =
    rw (handed_on c.from_residual-in_err-last_under-in-Some-prior.result c.from_residual-in_err-last_under-in-Some-prior.ensures.1)
    (only_reads_err _ (only_reads_then _ g.met.S.PageStore.goes_on _ _ _ c.in_ok-fork.ensures.looks.left
    (only_reads_then _ g.met.S.PageStore.goes_on _ _ _ c.in_ok-r.ensures.left c.in_err-last_under-in-Some-prior.ensures.left)))

pub returns-in_ok-last_under-in-Some-prior-clause-left : goal.returns-in_ok-last_under-in-Some-prior-clause-left
returns-in_ok-last_under-in-Some-prior-clause-left g t c =
    only_reads_ok _ (only_reads_then _ g.met.S.PageStore.goes_on _ _ _ c.in_ok-fork.ensures.looks.left
    (only_reads_then _ g.met.S.PageStore.goes_on _ _ _ c.in_ok-r.ensures.left c.in_ok-last_under-in-Some-prior.ensures.left)) _

pub returns-in_err-r-clause-left : goal.returns-in_err-r-clause-left
returns-in_err-r-clause-left g t c =
    rw (handed_on c.from_residual-in_err-r.result c.from_residual-in_err-r.ensures.1)
    (only_reads_then _ g.met.S.PageStore.goes_on _ _ _ c.in_ok-fork.ensures.looks.left c.in_err-r.ensures.left)

pub returns-in-Some-clause-left : goal.returns-in-Some-clause-left
returns-in-Some-clause-left g t c =
    only_reads_ok _ (only_reads_then _ g.met.S.PageStore.goes_on _ _ _ c.in_ok-fork.ensures.looks.left c.in_ok-r.ensures.left) _

pub returns-in-None-prior-clause-left : goal.returns-in-None-prior-clause-left
returns-in-None-prior-clause-left g t c =
    only_reads_ok _ (only_reads_then _ g.met.S.PageStore.goes_on _ _ _ c.in_ok-fork.ensures.looks.left c.in_ok-r.ensures.left) _

pub returns-in_err-fork-clause-left : goal.returns-in_err-fork-clause-left
returns-in_err-fork-clause-left g t c = only_reads_handed _ c.from_residual.ensures.1 c.in_err-fork.ensures.looks.left
