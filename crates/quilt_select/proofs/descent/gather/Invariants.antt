use Rattle.std.proofs.Common.{◌≡◌, fold, drop}
use Rattle.quilt_select.specs.Descents.{with_selected}
use Rattle.quilt_select.proofs.descent.gather.Given as goal

abbrev pub invariant-loop-id : goal.invariant-loop-id
invariant-loop-id l = fold (with_selected l.near) l.found.entries (drop l.id-index l.list) ≡ fold (with_selected l.near) l.fn.found.entries l.list
