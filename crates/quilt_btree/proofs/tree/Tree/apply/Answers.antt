use Rattle.std.proofs.Common.{rules, ◌≡◌, true, ◌∙◌, ◌+◌, ◌*◌, ◌≤◌, length, take, subst, sym, arith}
use Rattle.quilt_types.specs.Facts.{quota}
use Rattle.quilt_node.specs.Pages.{is_ascending}
use Rattle.quilt_btree.specs.Batches.{edit_keys, more, looks, removed, records_put}
use Rattle.quilt_btree.specs.Stops.{NamesPage}
use Rattle.quilt_btree.proofs.ways.Damage.{stops_behind, run_zero, run_names, run_cause}
use Rattle.quilt_btree.proofs.batches.Whole.{rest, made_rest, made_all, rest_long, rest_ascends, rest_fails, rest_room, rest_cost, rest_cost_all, cost_take, cost_is, rest_looks, looks_take, looks_are}
use Rattle.quilt_world.proofs.ReadCounts.{reads_then, reads_more}
use Rattle.quilt_btree.proofs.batches.Costs.{read_all}
use Rattle.quilt_btree.proofs.batches.Lists.{edits_are}
use Rattle.quilt_btree.proofs.batches.Rises.{whole_rises}
use Rattle.quilt_btree.proofs.tree.Tree.apply.Goals as goal

pub loop-done-preserved : goal.loop-done-preserved
loop-done-preserved g c = record {
  made = made_rest
      c.loop-done.done c.in-Ok.n
      c.edits-run.result.now
      c.loop-done.invariant.size c.loop-done.invariant.made c.in-Ok.ensures.counts.rooted c.in-Ok.ensures.counts.count c.in-Ok.ensures.edited;
  in_range = rest_long c.edits-run.result.now c.loop-done.done c.in-Ok.n c.loop-done-test.true c.in-Ok.ensures.counts.number.1;
  faults = let m = c.loop-done.invariant.faults in let n = c.in-Ok.ensures.left.cause.later in omega arith;
  size = c.in-Ok.ensures.left.size ∙ c.loop-done.invariant.size;
  later = g.met.S.PageStore.goes_on _ _ _ c.loop-done.invariant.later c.in-Ok.ensures.left.later;
  changed = let m = c.loop-done.invariant.changed in let n = c.in-Ok.ensures.left.changed in
      let e = rest_cost c.edits-run.result.now c.loop-done.done c.in-Ok.n in omega arith;
  reads = reads_then (looks (take c.loop-done.done c.edits-run.result.now)) (looks (take c.in-Ok.n (rest c.edits-run.result.now c.loop-done.done)))
      (looks (take (c.loop-done.done + c.in-Ok.n) c.edits-run.result.now)) _ _ _
      (let e = rest_looks c.edits-run.result.now c.loop-done.done c.in-Ok.n in omega arith) c.loop-done.invariant.reads
      (read_all _ _ _ c.in-Ok.ensures.left.reads);
  start = λ e. absurd (let n = c.in-Ok.ensures.counts.number.0 in omega arith);
}

pub apply_some-requires-clause-order : goal.apply_some-requires-clause-order
apply_some-requires-clause-order g c =
    rest_ascends c.edits-run.result.now c.loop-done.done
    (subst (λ l. is_ascending (edit_keys l) ≡ true) (sym c.edits-run.ensures.edits) c.edits-run.ensures.order)

pub apply_some-requires-clause-room : goal.apply_some-requires-clause-room
apply_some-requires-clause-room g c =
    subst (λ n. c.loop-done.self.records + more (rest c.edits-run.result.now c.loop-done.done) ≤ quota n) (sym c.loop-done.invariant.size)
    (rest_room (g.S.PageStore.told c.args.store.now) (g.S.PageStore.free c.args.store.now) (g.S.PageStore.size c.args.store.now) c.args.self.now c.edits-run.result.now (g.S.PageStore.told c.loop-done.store) (g.S.PageStore.free c.loop-done.store) c.loop-done.done c.loop-done.self
    c.loop-done.invariant.made (rw (← c.edits-run.ensures.edits) at c.requires.room))

pub returns-in-Err-clause-fails : goal.returns-in-Err-clause-fails
returns-in-Err-clause-fails g c = rw (← c.edits-run.ensures.edits) (λ rs w.
    run_zero _ c.in-Err.e c.stop_behind.result c.loop-done.done (stops_behind c.in-Err.e c.stop_behind.result c.loop-done.done c.stop_behind.ensures)
    (rest_fails c.in-Err.e c.loop-done.done c.edits-run.result.now c.loop-done.invariant.size c.loop-done.invariant.made c.in-Err.ensures.fails rs w))

pub returns-in-Err-clause-names : goal.returns-in-Err-clause-names
returns-in-Err-clause-names g c =
    (stops_behind c.in-Err.e c.stop_behind.result c.loop-done.done c.stop_behind.ensures).names (g.S.PageStore.size c.args.store.now)
    (let r = (g.met.S.PageStore.in_range c.args.store.now).0 in omega arith)
    (subst (λ n. NamesPage n c.in-Err.e) c.loop-done.invariant.size c.in-Err.ensures.names)

pub returns-in-Err-clause-bad : goal.returns-in-Err-clause-bad
returns-in-Err-clause-bad g c =
    run_names (g.S.PageStore.told c.args.store.now) (g.S.PageStore.told c.loop-done.store)
    c.args.self.now c.loop-done.self (stops_behind c.in-Err.e c.stop_behind.result c.loop-done.done c.stop_behind.ensures)
    c.loop-done.invariant.start c.in-Err.ensures.bad

pub returns-in-Err-clause-left : goal.returns-in-Err-clause-left
returns-in-Err-clause-left g c = record {
  cause =
      run_cause (g.S.PageStore.faults c.args.store.now)
      (stops_behind c.in-Err.e c.stop_behind.result c.loop-done.done c.stop_behind.ensures)
      c.loop-done.invariant.faults c.in-Err.ensures.left.cause;
  size = c.in-Err.ensures.left.size ∙ c.loop-done.invariant.size;
  later = g.met.S.PageStore.goes_on _ _ _ c.loop-done.invariant.later c.in-Err.ensures.left.later;
  changed =
      rw (← c.edits-run.ensures.edits)
      (let m = c.loop-done.invariant.changed in let n = c.in-Err.ensures.left.less in let e = rest_cost_all c.edits-run.result.now c.loop-done.done in
      let k = cost_is c.edits-run.result.now in omega arith);
  reads = tt;
}

pub returns-clause-left : goal.returns-clause-left
returns-clause-left g c = record {
  cause = record { later = c.loop-done.invariant.faults; device = search rules };
  size = c.loop-done.invariant.size;
  later = c.loop-done.invariant.later;
  changed =
      rw (← c.edits-run.ensures.edits)
      (let m = c.loop-done.invariant.changed in let e = cost_take c.loop-done.done c.edits-run.result.now in let k = cost_is c.edits-run.result.now in omega arith);
  reads =
      rw (← c.edits-run.ensures.edits)
      (reads_more (looks (take c.loop-done.done c.edits-run.result.now)) (10 * length (removed c.edits-run.result.now) + 6 * length (records_put c.edits-run.result.now)) _ _
      (let e = looks_take c.loop-done.done c.edits-run.result.now in let k = looks_are c.edits-run.result.now in omega arith) c.loop-done.invariant.reads);
}

pub returns-clause-edited : goal.returns-clause-edited
returns-clause-edited g c =
    rw (← c.edits-run.ensures.edits)
    ((made_all (g.S.PageStore.told c.args.store.now) (g.S.PageStore.free c.args.store.now) (g.S.PageStore.size c.args.store.now) c.args.self.now c.edits-run.result.now (g.S.PageStore.told c.loop-done.store) (g.S.PageStore.free c.loop-done.store) c.loop-done.done c.loop-done.self
    c.loop-done-test.false c.loop-done.invariant.made).whole)

pub returns-clause-count : goal.returns-clause-count
returns-clause-count g c =
    rw (← c.edits-run.ensures.edits)
    ((made_all (g.S.PageStore.told c.args.store.now) (g.S.PageStore.free c.args.store.now) (g.S.PageStore.size c.args.store.now) c.args.self.now c.edits-run.result.now (g.S.PageStore.told c.loop-done.store) (g.S.PageStore.free c.loop-done.store) c.loop-done.done c.loop-done.self
    c.loop-done-test.false c.loop-done.invariant.made).count)

pub returns-clause-list : goal.returns-clause-list
returns-clause-list g c = rw (← c.edits-run.ensures.edits) (λ rs w due.
    edits_are c.edits-run.result.now rs (subst (λ l. is_ascending (edit_keys l) ≡ true) (sym c.edits-run.ensures.edits) c.edits-run.ensures.order)
    (whole_rises (g.S.PageStore.told c.args.store.now) (g.S.PageStore.free c.args.store.now)
    (g.S.PageStore.size c.args.store.now) c.args.self.now rs w) due)

pub returns-in-Err-clause-list : goal.returns-in-Err-clause-list
returns-in-Err-clause-list g c = rw (← c.edits-run.ensures.edits) (λ rs w due.
    edits_are c.edits-run.result.now rs (subst (λ l. is_ascending (edit_keys l) ≡ true) (sym c.edits-run.ensures.edits) c.edits-run.ensures.order)
    (whole_rises (g.S.PageStore.told c.args.store.now) (g.S.PageStore.free c.args.store.now)
    (g.S.PageStore.size c.args.store.now) c.args.self.now rs w) due)
