use Rattle.std.proofs.Common.{◌≡◌, ◌++◌, drop}
use Rattle.quilt_select.specs.Clips.{clips_of as clips_of_list}
use Rattle.quilt_select.proofs.clips.clips_of.Given as goal

abbrev pub invariant-loop-id : goal.invariant-loop-id
invariant-loop-id l = l.clips ++ clips_of_list l.w (drop l.id-index l.list) ≡ clips_of_list l.w l.list
