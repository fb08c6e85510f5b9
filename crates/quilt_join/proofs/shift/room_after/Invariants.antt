use Rattle.std.proofs.Common.{◌≡◌, ◌+◌, ◌^◌, take}
use Rattle.quilt_join.specs.Costs.{touched}
use Rattle.quilt_join.proofs.shift.room_after.Given as goal

abbrev pub invariant-loop-s : goal.invariant-loop-s
invariant-loop-s l = l.left + touched (2 ^ l.shift) (take l.s-index l.list) ≡ l.room
