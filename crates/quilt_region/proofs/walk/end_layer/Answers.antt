use Rattle.std.proofs.Common.{◌∙◌}
use Rattle.quilt_region.proofs.Walking.{goes_out}
use Rattle.quilt_btree.proofs.Handed.{handed_on}
use Rattle.quilt_btree.proofs.Stops.{sound_zero}
use Rattle.quilt_region.proofs.walk.end_layer.Goals as goal

pub returns-in_err-r-clause-sound : goal.returns-in_err-r-clause-sound
returns-in_err-r-clause-sound g c =
    rw (handed_on c.from_residual.result c.from_residual.ensures.1) (λ n h. c.in_err-r.ensures.sound h.before h.after h.tree h.stands)

pub returns-in-Some-clause-sound : goal.returns-in-Some-clause-sound
returns-in-Some-clause-sound g c n h page e =
    let is = c.from.ensures in
    goes_out (g.S.PageStore.told c.args.store.now) c.args.tree.now c.args.cursor.now c.next.new.c c.args.layer n h c.in_ok-r.field-0 c.in-Some.r
    (c.in_ok-r.ensures.next h.before h.after h.tree h.stands) c.in-Some.is (c.if-r-from.true ∙ is)

pub returns-in_err-r-clause-zero : goal.returns-in_err-r-clause-zero
returns-in_err-r-clause-zero g c =
    rw (handed_on c.from_residual.result c.from_residual.ensures.1) (λ h. sound_zero _ (c.in_err-r.ensures.sound h.before h.after h.tree h.stands))

pub returns-in_err-r-clause-bad : goal.returns-in_err-r-clause-bad
returns-in_err-r-clause-bad g c = rw (handed_on c.from_residual.result c.from_residual.ensures.1) c.in_err-r.ensures.bad
