use Rattle.std.proofs.Common.{refl}
use Rattle.quilt_edition.specs.Laws.{later_same}
use Rattle.quilt_edition.proofs.book.Book.raise.Goals as goal

pub returns-clause-goes_on : goal.returns-clause-goes_on
returns-clause-goes_on g c = (refl, refl, refl, refl, later_same c.args.self.now.journal.pages (g.W.Disk.told c.args.self.now.world))
