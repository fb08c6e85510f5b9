use Rattle.std.proofs.Common.{◌≤◌, take, drop, arith}
use Rattle.quilt_types.specs.Facts.{quota}
use Rattle.quilt_btree.specs.Batches.{more, fewer}
use Rattle.quilt_btree.proofs.batches.Whole.{whole_edited, whole_fails, some_left, stays_edited, stays_failed, more_take, some_cost, few_enough, first_room, still_rooted}
use Rattle.quilt_btree.proofs.batches.Costs.{first_spared, first_behind, first_made, first_stopped, some_taken}
use Rattle.quilt_btree.proofs.stores.Leaves.{damaged_device}
use Rattle.quilt_btree.proofs.batches.Whole.{some_looks}
use Rattle.quilt_btree.proofs.ways.Damage.{named_along}
use Rattle.quilt_btree.proofs.Handed.{handed_on}
use Rattle.quilt_btree.proofs.tree.Tree.apply_some.Goals as goal

pub returns-in_err-n-clause-fails : goal.returns-in_err-n-clause-fails
returns-in_err-n-clause-fails g c =
    rw (handed_on c.from_residual.result c.from_residual.ensures.1)
    (λ rs w page is. whole_fails (g.S.PageStore.told c.args.store.now) (g.S.PageStore.free c.args.store.now) (g.S.PageStore.size c.args.store.now) c.args.self.now
    c.args.run.now _ rs
    (record {
      rooted = c.requires.rooted;
      least = (g.met.S.PageStore.in_range c.args.store.now).0;
      inside = g.met.S.PageStore.free_pages_are c.args.store.now;
      above = c.if-self-eq0.false;
    }) c.in_err-n.ensures.fails w page is)

pub returns-then-n-eq0-clause-edited : goal.returns-then-n-eq0-clause-edited
returns-then-n-eq0-clause-edited g c =
    let same = c.in_ok-n.ensures.takes.stays c.if-n-eq0.true in
    stays_edited c.apply_first-then-n-eq0.result (g.S.PageStore.told c.apply_first-then-n-eq0.new.store)
    (g.S.PageStore.free c.apply_first-then-n-eq0.new.store) c.args.self.now c.apply_first-then-n-eq0.new.self c.args.run.now
    (record { same_pages = same.0; same_free = same.1; same_size = c.in_ok-n.ensures.left.size }) c.apply_first-then-n-eq0.ensures.edited

pub returns-then-n-eq0-clause-fails : goal.returns-then-n-eq0-clause-fails
returns-then-n-eq0-clause-fails g c =
    let same = c.in_ok-n.ensures.takes.stays c.if-n-eq0.true in
    stays_failed c.apply_first-then-n-eq0.result c.args.self.now c.args.run.now
    (record { same_pages = same.0; same_free = same.1; same_size = c.in_ok-n.ensures.left.size }) c.apply_first-then-n-eq0.ensures.fails

pub returns-in_err-n-clause-bad : goal.returns-in_err-n-clause-bad
returns-in_err-n-clause-bad g c =
    rw (handed_on c.from_residual.result c.from_residual.ensures.1) (c.in_err-n.ensures.bad)

pub returns-then-n-eq0-clause-bad : goal.returns-then-n-eq0-clause-bad
returns-then-n-eq0-clause-bad g c =
    named_along c.apply_first-then-n-eq0.result (g.S.PageStore.told c.args.store.now) (g.S.PageStore.told c.edit_under.new.store)
    c.args.self.now.height c.args.self.now.root (c.in_ok-n.ensures.takes.stays c.if-n-eq0.true).0 c.apply_first-then-n-eq0.ensures.bad

pub returns-in_err-n-clause-left : goal.returns-in_err-n-clause-left
returns-in_err-n-clause-left g c =
    rw (handed_on c.from_residual.result c.from_residual.ensures.1)
    (first_stopped _ c.args.run.now c.args.self.now.height _ (some_cost c.args.run.now c.requires.some) (λ is. is) c.in_err-n.ensures.left)

pub returns-in-None-clause-left : goal.returns-in-None-clause-left
returns-in-None-clause-left g c =
    first_stopped _ c.args.run.now c.args.self.now.height _ (some_cost c.args.run.now c.requires.some) (λ is. absurd (damaged_device is))
    c.in_ok-n.ensures.left

pub records_behind-requires : goal.records_behind-requires
records_behind-requires g c =
    few_enough c.args.self.now.records (more (take c.in_ok-n.n c.args.run.now)) (more (drop c.in_ok-n.n c.args.run.now)) (more c.args.run.now)
    (g.S.PageStore.size c.args.store.now) (more_take c.in_ok-n.n c.args.run.now) c.requires.room (g.met.S.PageStore.in_range c.args.store.now).1

pub returns-in-None-clause-fails : goal.returns-in-None-clause-fails
returns-in-None-clause-fails g c rs w page is =
    let one : 1 ≤ c.in_ok-n.n = let h = c.if-n-eq0.false in omega arith in
    let lt = some_left (g.S.PageStore.told c.args.store.now) (g.S.PageStore.told c.edit_under.new.store) (g.S.PageStore.free c.args.store.now)
    (g.S.PageStore.free c.edit_under.new.store) (g.S.PageStore.size c.args.store.now) c.args.self.now rs c.args.run.now
    (take c.in_ok-n.n c.args.run.now)
    (record {
      rooted = c.requires.rooted;
      least = (g.met.S.PageStore.in_range c.args.store.now).0;
      inside = g.met.S.PageStore.free_pages_are c.args.store.now;
      above = c.if-self-eq0.false;
    }) (c.in_ok-n.ensures.edited one) w in
    let le = c.records_behind.ensures.none c.in-None.is in
    absurd (omega (arith, lt, le))

pub returns-in-Some-clause-counts : goal.returns-in-Some-clause-counts
returns-in-Some-clause-counts g c = record {
  number = (let h = c.if-n-eq0.false in omega arith, c.in_ok-n.ensures.takes.number);
  rooted =
      still_rooted (more (take c.in_ok-n.n c.args.run.now)) (fewer (take c.in_ok-n.n c.args.run.now)) c.requires.rooted c.if-self-eq0.false
      c.in-Some.ensures.some.0 c.in-Some.ensures.some.1
      (first_room c.args.self.now.records (more (take c.in_ok-n.n c.args.run.now)) (more (drop c.in_ok-n.n c.args.run.now)) (more c.args.run.now)
      (quota (g.S.PageStore.size c.args.store.now)) (more_take c.in_ok-n.n c.args.run.now) c.requires.room);
  count = c.in-Some.ensures.some.0;
}

pub returns-in-Some-clause-edited : goal.returns-in-Some-clause-edited
returns-in-Some-clause-edited g c rs w =
    let one : 1 ≤ c.in_ok-n.n = let h = c.if-n-eq0.false in omega arith in
    whole_edited (g.S.PageStore.told c.args.store.now) (g.S.PageStore.told c.edit_under.new.store) (g.S.PageStore.free c.args.store.now)
    (g.S.PageStore.free c.edit_under.new.store) (g.S.PageStore.size c.args.store.now) c.in-Some.records c.args.self.now c.args.run.now
    (record {
      rooted = c.requires.rooted;
      least = (g.met.S.PageStore.in_range c.args.store.now).0;
      inside = g.met.S.PageStore.free_pages_are c.args.store.now;
      above = c.if-self-eq0.false;
    }) c.in-Some.ensures.some.0 (c.in_ok-n.ensures.edited one) w

pub returns-then-self-eq0-clause-left : goal.returns-then-self-eq0-clause-left
returns-then-self-eq0-clause-left g c = first_spared _ c.apply_first.ensures.left

pub returns-then-n-eq0-clause-left : goal.returns-then-n-eq0-clause-left
returns-then-n-eq0-clause-left g c =
    first_behind _ g.met.S.PageStore.goes_on c.args.self.now.height c.requires.rooted.height c.in_ok-n.ensures.left
    c.apply_first-then-n-eq0.ensures.left

pub returns-in-Some-clause-left : goal.returns-in-Some-clause-left
returns-in-Some-clause-left g c =
    let one : 1 ≤ c.in_ok-n.n = let h = c.if-n-eq0.false in omega arith in
    first_made _ c.args.run.now c.in_ok-n.n c.args.self.now.height (some_taken c.args.run.now c.in_ok-n.n one c.in_ok-n.ensures.takes.number)
    (let h = c.requires.rooted.height in let s = some_looks c.args.run.now c.in_ok-n.n one c.in_ok-n.ensures.takes.number in omega arith) c.in_ok-n.ensures.left
