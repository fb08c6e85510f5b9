use Rattle.std.proofs.Common.{◌∙◌, sym, length, arith}
use Rattle.quilt_store.proofs.Counts.{count_of_free}
use Rattle.quilt_store.proofs.memory.MemStorePageStore.free_pages.Goals as goal

pub returns : goal.returns
returns c = c.args.self.now.counted
    ∙ sym (count_of_free c.args.self.now.free.items (length c.args.self.now.pages.items) c.args.self.now.from_one c.args.self.now.tests
    (omega (arith, c.args.self.now.least)))
