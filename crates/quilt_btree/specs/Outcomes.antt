-- What an edit tells of the key: whether it was there.
use Rattle.std.specs.Prelude.{Bool, true, false}
use Rattle.quilt_btree.specs.declared.outcomes.Inserted.{Inserted}
use Rattle.quilt_btree.specs.declared.outcomes.Inserted.TheVariants as inserted
use Rattle.quilt_btree.specs.declared.outcomes.Removed.{Removed}
use Rattle.quilt_btree.specs.declared.outcomes.Removed.TheVariants as removed

-- a record with the key was there, and no record was put in
abbrev pub was_there : Inserted → Bool
was_there inserted.There = true
was_there inserted.Done = false
was_there (inserted.Split key right) = false

-- a record with the key was there, and is out
abbrev pub was_found : Removed → Bool
was_found removed.Missing = false
was_found removed.Done = true
was_found removed.Underfull = true
was_found removed.Emptied = true
was_found (removed.Only child) = true
