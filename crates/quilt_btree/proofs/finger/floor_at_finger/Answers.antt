use Rattle.std.proofs.Common.{sym, ◌∙◌}
use Rattle.quilt_btree.proofs.cursors.Fingers.{finger_floor}
use Rattle.quilt_btree.proofs.finger.floor_at_finger.Goals as goal

pub returns-then-is_under : goal.returns-then-is_under
returns-then-is_under c =
    finger_floor c.floor_in.result c.args.finger.now c.in-Some.leaf c.args.k.now c.in-Some.is (sym c.is_under.ensures ∙ c.if-is_under.true) c.floor_in.ensures
