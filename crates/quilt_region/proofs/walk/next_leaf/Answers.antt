use Rattle.std.proofs.lemmas.Result.{IfOk-weaker, IfErr-weaker}
use Rattle.quilt_store.proofs.Reading.{only_reads_free}
use Rattle.quilt_region.proofs.Walking.{goes_over, stands_over}
use Rattle.quilt_btree.proofs.Handed.{handed_on}
use Rattle.quilt_btree.proofs.Stops.{sound_zero}
use Rattle.quilt_btree.proofs.ways.Damage.{zero_named}
use Rattle.quilt_region.proofs.walk.next_leaf.Goals as goal

pub returns-in_err-found-clause-sound : goal.returns-in_err-found-clause-sound
returns-in_err-found-clause-sound g c =
    rw (handed_on c.from_residual.result c.from_residual.ensures.1)
    (λ e rest block from h. c.in_err-found.ensures.sound h.before h.after h.tree h.stands)

pub returns-in_err-found-clause-zero : goal.returns-in_err-found-clause-zero
returns-in_err-found-clause-zero g c =
    rw (handed_on c.from_residual.result c.from_residual.ensures.1)
    (λ h. sound_zero _ (c.in_err-found.ensures.sound h.before h.after h.tree h.stands))

pub returns-in_err-found-clause-bad : goal.returns-in_err-found-clause-bad
returns-in_err-found-clause-bad g c = rw (handed_on c.from_residual.result c.from_residual.ensures.1) c.in_err-found.ensures.bad

pub returns-clause-next : goal.returns-clause-next
returns-clause-next g c =
    IfOk-weaker c.leaf_at.result _ _
    (λ l law e rest block h.
    let over = goes_over (g.S.PageStore.told c.args.store.now) c.args.tree.now c.args.cursor.now c.next.new.c c.args.layer c.args.level e rest h
    c.in_ok-found.found (c.in_ok-found.ensures.next h.before h.after h.tree h.stands) in
    (law e block over.0, over.1)) c.leaf_at.ensures.next

pub returns-clause-stays : goal.returns-clause-stays
returns-clause-stays g c =
    IfOk-weaker c.leaf_at.result _ _
    (λ l row h.
    stands_over (g.S.PageStore.told c.args.store.now) c.args.tree.now c.args.cursor.now c.next.new.c h c.in_ok-found.found _
    (c.in_ok-found.ensures.next h.before h.after h.tree h.stands) row) c.leaf_at.ensures.row

pub returns-clause-sound : goal.returns-clause-sound
returns-clause-sound g c =
    IfErr-weaker c.leaf_at.result _ _
    (λ stop law e rest block from h.
    let over = goes_over (g.S.PageStore.told c.args.store.now) c.args.tree.now c.args.cursor.now c.next.new.c c.args.layer c.args.level e rest h
    c.in_ok-found.found (c.in_ok-found.ensures.next h.before h.after h.tree h.stands) in
    law e block from over.0) c.leaf_at.ensures.sound

pub returns-clause-zero : goal.returns-clause-zero
returns-clause-zero g c = IfErr-weaker c.leaf_at.result _ _ (λ e zero h. zero) c.leaf_at.ensures.zero

pub returns-clause-bad : goal.returns-clause-bad
returns-clause-bad g c = zero_named c.leaf_at.result _ _ _ c.leaf_at.ensures.zero

pub returns-clause-left : goal.returns-clause-left
returns-clause-left g c = only_reads_free _ c.leaf_at.result c.in_ok-found.ensures.left c.leaf_at.ensures.no_fault
