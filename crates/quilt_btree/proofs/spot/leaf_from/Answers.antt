use Rattle.std.proofs.Common.{refl, le_refl}
use Rattle.quilt_store.proofs.Reading.{only_reads_err, only_reads_then}
use Rattle.quilt_world.proofs.ReadCounts.{reads_then}
use Rattle.quilt_btree.proofs.stores.Leaves.{none_within}
use Rattle.quilt_btree.proofs.stores.Looks.{none_on, page_ok, reads_less}
use Rattle.quilt_btree.proofs.spot.leaf_from.Goals as goal

pub returns-in-Err : goal.returns-in-Err
returns-in-Err g c =
    let e = c.in-Err.ensures in
    let left = only_reads_err _ e.left in
    let reads = reads_less 2 1 _ _ e.reads in (
      (refl, λ _. tt, (left, reads, λ at. none_within 1 _ _ (e.here at).1)),
      record { bytes = tt; spot = tt; key = tt; here = λ at. tt; sound = e.sound; names = e.names; bad = e.bad; left = tt },
    )

pub returns-in-Ok-page : goal.returns-in-Ok-page
returns-in-Ok-page g c =
    let found = c.in-Ok.ensures in
    let b = c.page.follows.holds-at-none in
    let left = only_reads_then _ g.met.S.PageStore.goes_on _ _ _ found.left (page_ok g.S.PageStore _ b.0 b.1 b.2 b.3 b.4 b.8) in
    let reads = reads_then 2 1 3 _ _ _ (le_refl 3) found.reads b.6 in (
      (refl, λ _. tt, (left, reads, λ at. none_on _ _ _ (found.here at).1 b.6)),
      record {
        bytes = rw found.left.told at c.in-Ok-page.ensures.bytes;
        spot = found.leads.spot;
        key = (found.leads.page.0, found.leads.page.1, found.leads.keys.0, found.leads.keys.1);
        here = λ at. (found.here at).0;
        sound = tt;
        names = tt;
        bad = tt;
        left = tt;
      },
    )
