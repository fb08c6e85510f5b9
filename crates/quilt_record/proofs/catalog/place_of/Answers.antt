use Rattle.std.proofs.Common.{◌∙◌, sym}
use Rattle.quilt_record.proofs.Entries.{place_found, place_last}
use Rattle.quilt_record.proofs.catalog.place_of.Goals as goal

pub returns-in-Some : goal.returns-in-Some
returns-in-Some c = place_found _ c.args.entries.now c.in-Some.i (sym c.first_greater.ensures ∙ c.in-Some.is)

pub returns-in-None : goal.returns-in-None
returns-in-None c = place_last _ c.args.entries.now (sym c.first_greater.ensures ∙ c.in-None.is)
