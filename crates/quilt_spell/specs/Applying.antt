-- Records taken out of a list and put into it, one after another, as the tree does.
use Rattle.std.specs.Prelude.{List, [], ◌∷◌}
use Rattle.quilt_record.specs.declared.record.Record.{Record}
use Rattle.quilt_record.specs.Lists.{put, without}

-- the records after these were taken out, from the first on
abbrev pub taken : List Record → List Record → List Record
taken rs [] = rs
taken rs (r ∷ removed) = taken (without r.key rs) removed

-- the records after these were put in, from the first on
abbrev pub given : List Record → List Record → List Record
given rs [] = rs
given rs (r ∷ added) = given (put r rs) added
