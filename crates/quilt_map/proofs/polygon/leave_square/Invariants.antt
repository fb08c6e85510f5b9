use Rattle.std.proofs.Common.{◌≡◌, false, not, take}
use Rattle.std.specs.List.{list_any}
use Rattle.quilt_types.specs.Polygons.{is_corner}
use Rattle.quilt_map.proofs.polygon.leave_square.Given as goal

abbrev pub invariant-loop-i : goal.invariant-loop-i
invariant-loop-i l = list_any (list_any (λ k. not (is_corner l.side k))) (take l.i l.rings) ≡ false
