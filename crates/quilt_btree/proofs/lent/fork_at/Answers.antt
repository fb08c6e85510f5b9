use Rattle.quilt_types.specs.declared.stop.Stop.TheVariants.{Damaged}
use Rattle.quilt_btree.proofs.ways.Looked.{inner_sound, inner_bad, shows_fork}
use Rattle.quilt_btree.proofs.lent.fork_at.Goals as goal

pub returns-in-None-clause-sound : goal.returns-in-None-clause-sound
returns-in-None-clause-sound g c = inner_sound (g.S.PageStore.told c.args.store.now) c.args.page c.pages-pages.result (g.S.PageStore.size c.args.store.now) c.in-Ok.bytes.now
    c.pages-pages.ensures (g.met.S.PageStore.as_many c.args.store.now) c.in-Ok.ensures.bytes (Damaged c.args.page) c.in-None.ensures.fork

pub returns-in-None-clause-bad : goal.returns-in-None-clause-bad
returns-in-None-clause-bad g c = inner_bad (g.S.PageStore.told c.args.store.now) c.args.page c.pages-pages.result (g.S.PageStore.size c.args.store.now) c.in-Ok.bytes.now
    c.pages-pages.ensures (g.met.S.PageStore.as_many c.args.store.now) c.in-Ok.ensures.bytes c.in-None.ensures.fork

pub returns-in-Some-clause-shows : goal.returns-in-Some-clause-shows
returns-in-Some-clause-shows g c = shows_fork (g.S.PageStore.told c.args.store.now) c.args.page c.pages-pages.result (g.S.PageStore.size c.args.store.now) c.in-Ok.bytes.now
    c.args.k.now c.in-Some.fork.child c.in-Some.fork.prior c.pages-pages.ensures c.in-Ok.ensures.bytes c.in-Some.ensures.stands c.in-Some.ensures.fork
