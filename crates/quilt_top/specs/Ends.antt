-- The exit status of each end.
use Rattle.std.specs.Prelude.{ℕ}
use Rattle.quilt_top.specs.declared.run.End.{End}
use Rattle.quilt_top.specs.declared.run.End.TheVariants.{Done, Refused, Usage, Device, Memory, NotMap, Missing, Taken, TooMuch, Damaged}

-- the ends by number, in their order
abbrev pub status_of : End → ℕ
status_of Done = 0
status_of Refused = 1
status_of Usage = 2
status_of Device = 3
status_of Memory = 4
status_of NotMap = 5
status_of Missing = 6
status_of Taken = 7
status_of TooMuch = 8
status_of (Damaged page) = 9
