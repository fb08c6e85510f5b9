use Rattle.quilt_btree.proofs.ways.Forks.{are_of}
use Rattle.quilt_btree.proofs.lent.floor_at.Goals as goal

pub returns-in-Ok-clause-shows : goal.returns-in-Ok-clause-shows
returns-in-Ok-clause-shows g c = record {
  bytes = c.in-Ok.bytes.now;
  are = are_of (g.S.PageStore.told c.args.store.now) c.args.page c.in-Ok.bytes.now c.in-Ok.ensures.bytes;
  floor = c.floor_in.ensures;
}
