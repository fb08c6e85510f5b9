use Rattle.std.proofs.Common.{◌≢◌, refl, le_refl, arith}
use Rattle.quilt_store.proofs.Reading.{only_reads_err, only_reads_then}
use Rattle.quilt_world.proofs.ReadCounts.{reads_then}
use Rattle.quilt_btree.proofs.stores.Looks.{page_ok, reads_less, found_read}
use Rattle.quilt_btree.proofs.cursors.Stands.{are_before}
use Rattle.quilt_btree.proofs.subtrees.Whole.{sound_whole}
use Rattle.quilt_btree.proofs.step.leaf_for.Goals as goal

pub returns-in-Err : goal.returns-in-Err
returns-in-Err g c =
    let e = c.in-Err.ensures in
    let ne : c.args.tree.now.height ≢ 0 = let h = c.requires.some in omega arith in
    let sound = sound_whole _ (g.S.PageStore.told c.args.store.now) c.args.tree.now ne e.sound in
    let reads = reads_less 2 1 _ _ (found_read c.args.tree.now.height _ _ c.requires.rooted.height e.reads) in
    ((refl, λ _. tt, (only_reads_err _ e.left, reads)), record { arrives = tt; sound = sound; names = e.names; bad = e.bad; left = tt })

pub returns-in-Ok-page : goal.returns-in-Ok-page
returns-in-Ok-page g c =
    let found = c.in-Ok.ensures in
    let b = c.page.follows.holds-at-none in
    let left = only_reads_then _ g.met.S.PageStore.goes_on _ _ _ found.left (page_ok g.S.PageStore _ b.0 b.1 b.2 b.3 b.4 b.8) in
    let reads = reads_then 2 1 3 _ _ _ (le_refl 3) (found_read c.args.tree.now.height _ _ c.requires.rooted.height found.reads) b.6 in
    let arrives = found.arrives c.in-Ok-page.bytes.now (are_before _ _ _ _ found.left.told c.in-Ok-page.ensures.bytes) in
    ((refl, λ _. tt, (left, reads)), record { arrives = arrives; sound = tt; names = tt; bad = tt; left = tt })
