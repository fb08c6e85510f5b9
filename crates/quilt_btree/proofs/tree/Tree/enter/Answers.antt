use Rattle.std.proofs.Common.{◌≢◌, arith}
use Rattle.quilt_btree.proofs.cursors.Stands.{entered}
use Rattle.quilt_btree.proofs.subtrees.Whole.{tree_spells}
use Rattle.quilt_btree.proofs.tree.Tree.enter.Goals as goal

pub returns-in-Ok-clause-stands : goal.returns-in-Ok-clause-stands
returns-in-Ok-clause-stands g c before after is p =
    entered (g.S.PageStore.told c.args.store.now) c.args.self.now c.args.k.now before after c.in-Ok.ensures.arrives c.requires.some is p

pub returns-in-Ok-clause-least : goal.returns-in-Ok-clause-least
returns-in-Ok-clause-least g c rs is =
    let ne : c.args.self.now.height ≢ 0 = let h = c.requires.some in omega arith in
    c.in-Ok.ensures.arrives.least rs (tree_spells (g.S.PageStore.told c.args.store.now) c.args.self.now rs ne is).0
