use Rattle.quilt_btree.proofs.batches.Whole.{follows_all}
use Rattle.quilt_btree.proofs.batch.follows.Goals as goal

pub returns-else-n-eq0 : goal.returns-else-n-eq0
returns-else-n-eq0 c =
    follows_all c.args.edits.now c.args.k.now c.key.result.now c.precedes.result c.if-n-eq0.false c.requires c.key.ensures c.precedes.ensures
