use Rattle.quilt_record.proofs.Entries.{catalog_without}
use Rattle.quilt_record.proofs.catalog.Catalog.remove.Goals as goal

pub invariant_of-self : goal.invariant_of-self
invariant_of-self c = rw c.remove.ensures.items (catalog_without c.self.inside.entries.items c.args.i c.self.invariant)
