use Rattle.std.proofs.Common.{◌≡◌, false, take}
use Rattle.quilt_select.specs.Shares.{meets_any as meets_any_of}
use Rattle.quilt_select.proofs.descent.meets_any.Given as goal

abbrev pub invariant-loop-w : goal.invariant-loop-w
invariant-loop-w l = meets_any_of (take l.w-index l.near) l.s ≡ false
