use Rattle.std.proofs.Common.{◌≡◌, filter, take}
use Rattle.quilt_select.specs.Shares.{shares_pixel as shares_of}
use Rattle.quilt_select.proofs.descent.sharing.Given as goal

abbrev pub invariant-loop-w : goal.invariant-loop-w
invariant-loop-w l = l.list.items ≡ filter (shares_of l.b) (take l.w-index l.near)
