use Rattle.quilt_types.specs.declared.stop.Stop.TheVariants.{Damaged}
use Rattle.std.proofs.Common.{sym}
use Rattle.quilt_btree.proofs.ways.Forks.{are_of}
use Rattle.quilt_btree.proofs.ways.Looked.{end_sound, end_bad}
use Rattle.quilt_btree.proofs.lent.last_at.Goals as goal

pub returns-in-None-clause-sound : goal.returns-in-None-clause-sound
returns-in-None-clause-sound g c = end_sound (g.S.PageStore.told c.args.store.now) c.args.page c.in-Ok.bytes.now (Damaged c.args.page) c.in-Ok.ensures.bytes c.in-None.ensures

pub returns-in-None-clause-bad : goal.returns-in-None-clause-bad
returns-in-None-clause-bad g c = end_bad (g.S.PageStore.told c.args.store.now) c.args.page c.in-Ok.bytes.now c.in-Ok.ensures.bytes c.in-None.ensures

pub returns-in-Some-clause-shows : goal.returns-in-Some-clause-shows
returns-in-Some-clause-shows g c = record {
  bytes = c.in-Ok.bytes.now;
  are = are_of (g.S.PageStore.told c.args.store.now) c.args.page c.in-Ok.bytes.now c.in-Ok.ensures.bytes;
  last = λ rs is. sym (c.in-Some.ensures rs is);
}
