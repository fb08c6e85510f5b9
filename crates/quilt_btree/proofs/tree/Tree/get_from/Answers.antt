use Rattle.quilt_btree.proofs.Spots.{value_from}
use Rattle.quilt_btree.proofs.subtrees.Whole.{no_value}
use Rattle.quilt_btree.proofs.ways.Forks.{are_of}
use Rattle.quilt_btree.proofs.tree.Tree.get_from.Goals as goal

pub returns-then-self-eq0-clause-value : goal.returns-then-self-eq0-clause-value
returns-then-self-eq0-clause-value g c = λ rs is. no_value (g.S.PageStore.told c.args.store.now) c.args.self.now rs c.args.k.now c.if-self-eq0.true is

pub returns-in-Ok-clause-value : goal.returns-in-Ok-clause-value
returns-in-Ok-clause-value g c =
    let leaf = c.in-Ok.ensures in
    value_from c.args.k.now leaf.spot leaf.key.2 leaf.key.3 (are_of _ _ _ leaf.bytes) c.value_in.ensures
