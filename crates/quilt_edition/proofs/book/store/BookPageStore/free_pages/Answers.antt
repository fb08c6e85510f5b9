use Rattle.quilt_edition.proofs.book.store.BookPageStore.free_pages.Goals as goal

pub returns : goal.returns
returns g c = c.args.self.now.counted.counted
