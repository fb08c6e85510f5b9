use Rattle.quilt_btree.proofs.cursors.Stands.{sought}
use Rattle.quilt_btree.proofs.tree.Tree.seek.Goals as goal

pub returns-in-Ok-clause-sought : goal.returns-in-Ok-clause-sought
returns-in-Ok-clause-sought g c = λ rs is.
    sought (g.S.PageStore.told c.args.store.now) c.args.self.now c.args.k.now rs c.place_from.result c.in-Ok.ensures.arrives
    c.requires.some is c.place_from.ensures.range c.place_from.ensures.lower c.place_from.ensures.higher
