use Rattle.std.proofs.Common.{◌∙◌, length, arith, true, length-set}
use Rattle.quilt_store.proofs.Counts.{given, none_below}
use Rattle.quilt_store.proofs.memory.MemStorePageStore.give_page.Goals as goal

pub overflow_add-self : goal.overflow_add-self
overflow_add-self c =
    let s = c.args.self.now in
    let g = given s.free.items (length s.pages.items) c.args.page s.count s.from_one s.tests c.requires.page c.requires.taken s.counted in
    omega (arith, g.2, s.most)

pub invariant_of-self : goal.invariant_of-self
invariant_of-self c =
    let s = c.args.self.now in
    let g = given s.free.items (length s.pages.items) c.args.page s.count s.from_one s.tests c.requires.page c.requires.taken s.counted in
    let long = length-set s.free.items c.args.page true in
    record {
      least = s.least;
      most = s.most;
      tests = long ∙ s.tests;
      from_one = g.0;
      counted = g.1;
      reaches = let m = c.min-self.ensures in let le = s.reaches in omega arith;
      below = none_below s.free.items s.lowest c.args.page c.min-self.result true s.below (let m = c.min-self.ensures in omega arith)
          (let m = c.min-self.ensures in omega arith);
    }
