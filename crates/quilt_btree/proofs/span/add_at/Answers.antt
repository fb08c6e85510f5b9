use Rattle.quilt_btree.proofs.ranges.Rests.{from_not_err}
use Rattle.quilt_btree.proofs.ways.Forks.{are_of}
use Rattle.quilt_btree.proofs.span.add_at.Goals as goal

pub returns-else-is_err-clause-adds : goal.returns-else-is_err-clause-adds
returns-else-is_err-clause-adds g c =
    let all = from_not_err c.add_leaf.result c.is_err.result c.is_err.ensures.value c.if-is_err.false c.add_leaf.ensures in
    record {
      bytes = c.in-Ok.bytes.now;
      are = are_of (g.S.PageStore.told c.args.store.now) c.args.page c.in-Ok.bytes.now c.in-Ok.ensures.bytes;
      some = all.0;
      added = all.1;
      same = all.2;
    }
