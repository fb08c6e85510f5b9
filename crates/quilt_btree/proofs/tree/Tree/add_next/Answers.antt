use Rattle.std.proofs.Common.{rules, sym, ◌∙◌, ◌≢◌, arith, le_refl}
use Rattle.quilt_btree.specs.Looks.{IsSpoilt}
use Rattle.quilt_store.proofs.Reading.{only_reads_then, only_reads_ok}
use Rattle.quilt_world.proofs.ReadCounts.{reads_then}
use Rattle.quilt_btree.proofs.stores.Looks.{only_reads_handed, only_reads_damaged, found_read}
use Rattle.quilt_btree.proofs.ranges.Spans.{added_most, added_within, above_bound}
use Rattle.quilt_node.specs.Nodes.{page_records}
use Rattle.quilt_btree.proofs.subtrees.Whole.{tree_spells}
use Rattle.quilt_btree.proofs.ranges.Rests.{came_to, rest_ends, rest_fills, rest_adds, rest_next, none_over}
use Rattle.quilt_btree.proofs.ways.Damage.{fault_named}
use Rattle.quilt_btree.proofs.ways.Steps.{told_before}
use Rattle.quilt_btree.proofs.Handed.{handed_on}
use Rattle.quilt_btree.proofs.tree.Tree.add_next.Goals as goal

pub returns-in_err-found-clause-sound : goal.returns-in_err-found-clause-sound
returns-in_err-found-clause-sound g c =
    rw (handed_on c.from_residual.result c.from_residual.ensures.1) (let ne : c.args.self.now.height ≢ 0 = let h = c.requires.height in omega arith in
    λ low rs is b. c.in_err-found.ensures.sound rs (tree_spells (g.S.PageStore.told c.args.store.now) c.args.self.now rs ne is).0)

pub returns-then-now-most-clause-goes_on : goal.returns-then-now-most-clause-goes_on
returns-then-now-most-clause-goes_on g c = record {
  ends =
      λ none low rs is b.
      rest_fills (g.S.PageStore.told c.args.store.now) c.args.self.now low c.args.from.now c.args.high.now c.args.most
      (page_records c.in_ok-now.ensures.adds.bytes) c.args.records.now.items c.add_at.new.records.items rs c.in_ok-found.found.high (came_to (let h = c.requires.height in omega arith) c.in_ok-found.ensures.left.told c.in_ok-now.ensures.adds c.in_ok-found.ensures.arrives) is b
      (let e = c.in_ok-now.ensures.number in let t = c.if-now-most.true in omega arith);
  goes_on =
      tt;
  adds =
      tt;
  further =
      tt;
}

pub returns-in_ok-page-in-Some-clause-sound : goal.returns-in_ok-page-in-Some-clause-sound
returns-in_ok-page-in-Some-clause-sound g c = λ low rs is b page e. rest_adds (g.S.PageStore.told c.args.store.now) c.args.self.now c.args.from.now
    c.args.high.now (came_to (let h = c.requires.height in omega arith) c.in_ok-found.ensures.left.told c.in_ok-now.ensures.adds c.in_ok-found.ensures.arrives) is b c.in-Some.ensures
    ((c.in_ok-found.ensures.arrives c.in_ok-now.ensures.adds.bytes (told_before _ _ _ _ (sym c.in_ok-found.ensures.left.told) c.in_ok-now.ensures.adds.are)).least rs (tree_spells (g.S.PageStore.told c.args.store.now) c.args.self.now rs (let h = c.requires.height in omega arith) is).0)
    (let r = c.requires.room in omega (arith, c.args.records.now.ok.0))
    (λ same. c.if-now-most.false (let e = c.in_ok-now.ensures.number in omega arith))
    (let e = c.in_ok-now.ensures.number in let f = c.len-had.ensures in let t = c.if-now-had.true in omega (arith, c.args.records.now.ok.0))

pub returns-in_default-clause-goes_on : goal.returns-in_default-clause-goes_on
returns-in_default-clause-goes_on g c = record {
  ends =
      search rules;
  goes_on =
      rw c.in-Some.is (λ low rs is b.
      rest_next low (came_to (let h = c.requires.height in omega arith) c.in_ok-found.ensures.left.told c.in_ok-now.ensures.adds c.in_ok-found.ensures.arrives) is b c.in-Some.ensures.0);
  adds =
      let m = added_most c.args.most c.args.records.now.items _ _ c.in_ok-now.ensures.adds.added
      (let r = c.requires.room in omega (arith, c.args.records.now.ok.0)) in
      let e = c.in_ok-now.ensures.number in
      let f = c.len-had.ensures in
      let t = c.if-now-had.false in
      rw c.in-Some.is (omega (arith, m.1, c.args.records.now.ok.0, c.add_at.new.records.ok.0));
  further =
      rw c.in-Some.is (above_bound c.args.from.now c.in-Some.field-0 c.in_ok-found.found.high c.in_ok-found.ensures.range.above c.in-Some.ensures.0);
}

pub returns-in_default-2-clause-goes_on : goal.returns-in_default-2-clause-goes_on
returns-in_default-2-clause-goes_on g c = record {
  ends =
      λ none low rs is b.
      rest_ends (g.S.PageStore.told c.args.store.now) c.args.self.now low c.args.from.now c.args.high.now c.args.most
      (page_records c.in_ok-now.ensures.adds.bytes) c.args.records.now.items c.add_at.new.records.items rs c.in_ok-found.found.high (came_to (let h = c.requires.height in omega arith) c.in_ok-found.ensures.left.told c.in_ok-now.ensures.adds c.in_ok-found.ensures.arrives) is b
      (none_over c.key_up_to.result c.in_ok-found.found.high c.args.high.now c.key_up_to.ensures none);
  goes_on =
      search rules;
  adds =
      search rules;
  further =
      search rules;
}

pub returns-then-now-most-clause-grows : goal.returns-then-now-most-clause-grows
returns-then-now-most-clause-grows g c = record {
  room =
      search rules;
  within =
      λ low le old.
      added_within low c.args.from.now c.args.high.now le c.args.most c.in_ok-now.ensures.adds.some c.args.records.now.items
      c.add_at.new.records.items (c.in_ok-now.ensures.adds.added) old;
  more =
      search rules;
}

pub returns-in_default-clause-grows : goal.returns-in_default-clause-grows
returns-in_default-clause-grows g c = record {
  room =
      let m = added_most c.args.most c.args.records.now.items _ _ c.in_ok-now.ensures.adds.added
      (let r = c.requires.room in omega (arith, c.args.records.now.ok.0)) in
      omega (arith, m.0, c.add_at.new.records.ok.0);
  within =
      λ low le old.
      added_within low c.args.from.now c.args.high.now le c.args.most c.in_ok-now.ensures.adds.some c.args.records.now.items
      c.add_at.new.records.items (c.in_ok-now.ensures.adds.added) old;
  more =
      let m = added_most c.args.most c.args.records.now.items _ _ c.in_ok-now.ensures.adds.added
      (let r = c.requires.room in omega (arith, c.args.records.now.ok.0)) in
      omega (arith, m.1, c.args.records.now.ok.0, c.add_at.new.records.ok.0);
}

pub returns-in_default-2-clause-grows : goal.returns-in_default-2-clause-grows
returns-in_default-2-clause-grows g c = record {
  room =
      let m = added_most c.args.most c.args.records.now.items _ _ c.in_ok-now.ensures.adds.added
      (let r = c.requires.room in omega (arith, c.args.records.now.ok.0)) in
      omega (arith, m.0, c.add_at.new.records.ok.0);
  within =
      λ low le old.
      added_within low c.args.from.now c.args.high.now le c.args.most c.in_ok-now.ensures.adds.some c.args.records.now.items
      c.add_at.new.records.items (c.in_ok-now.ensures.adds.added) old;
  more =
      let m = added_most c.args.most c.args.records.now.items _ _ c.in_ok-now.ensures.adds.added
      (let r = c.requires.room in omega (arith, c.args.records.now.ok.0)) in
      omega (arith, m.1, c.args.records.now.ok.0, c.add_at.new.records.ok.0);
}

pub returns-in_err-found-clause-bad : goal.returns-in_err-found-clause-bad
returns-in_err-found-clause-bad g c =
    rw (handed_on c.from_residual.result c.from_residual.ensures.1) (λ ne. c.in_err-found.ensures.bad)

pub returns-in_ok-page-in-Some-clause-bad : goal.returns-in_ok-page-in-Some-clause-bad
returns-in_ok-page-in-Some-clause-bad g c = fault_named (g.S.PageStore.told c.args.store.now) c.args.self.now.height c.args.self.now.root c.in_ok-found.found.page
    c.in_ok-page-in-Some.page (IsSpoilt (g.S.PageStore.told c.add_at.new.store) c.in_ok-found.found.page) c.in_ok-page-in-Some.ensures.fault
    (λ (s : IsSpoilt (g.S.PageStore.told c.add_at.new.store) c.in_ok-found.found.page). c.in_ok-found.ensures.spoilt s.bytes
    (told_before _ _ _ _ (sym (c.in_ok-now.ensures.looks.left.told ∙ c.in_ok-found.ensures.left.told)) s.are) s.is_none)

pub returns-in_err-found-clause-left : goal.returns-in_err-found-clause-left
returns-in_err-found-clause-left g c = only_reads_handed _ c.from_residual.ensures.1 c.in_err-found.ensures.left

pub returns-in_err-now-clause-left : goal.returns-in_err-now-clause-left
returns-in_err-now-clause-left g c =
    only_reads_handed _ c.from_residual-in_err-now.ensures.1
    (only_reads_then _ g.met.S.PageStore.goes_on _ _ _ c.in_ok-found.ensures.left c.in_err-now.ensures.looks.left)

pub returns-then-now-most-clause-left : goal.returns-then-now-most-clause-left
returns-then-now-most-clause-left g c =
    only_reads_ok _ (only_reads_then _ g.met.S.PageStore.goes_on _ _ _ c.in_ok-found.ensures.left c.in_ok-now.ensures.looks.left) _

pub returns-in_err-page-in-Some-clause-left : goal.returns-in_err-page-in-Some-clause-left
returns-in_err-page-in-Some-clause-left g c =
    only_reads_handed _ c.from_residual-in_err-page-in-Some.ensures.1 (only_reads_then _ g.met.S.PageStore.goes_on _ _ _ c.in_ok-found.ensures.left
    (only_reads_then _ g.met.S.PageStore.goes_on _ _ _ c.in_ok-now.ensures.looks.left c.in_err-page-in-Some.ensures.looks.left))

pub returns-in_ok-page-in-Some-clause-left : goal.returns-in_ok-page-in-Some-clause-left
returns-in_ok-page-in-Some-clause-left g c =
    only_reads_damaged _ _ (only_reads_then _ g.met.S.PageStore.goes_on _ _ _ c.in_ok-found.ensures.left
    (only_reads_then _ g.met.S.PageStore.goes_on _ _ _ c.in_ok-now.ensures.looks.left c.in_ok-page-in-Some.ensures.looks.left))

pub returns-in_default-clause-left : goal.returns-in_default-clause-left
returns-in_default-clause-left g c =
    only_reads_ok _ (only_reads_then _ g.met.S.PageStore.goes_on _ _ _ c.in_ok-found.ensures.left c.in_ok-now.ensures.looks.left) _

pub returns-in_default-2-clause-left : goal.returns-in_default-2-clause-left
returns-in_default-2-clause-left g c =
    only_reads_ok _ (only_reads_then _ g.met.S.PageStore.goes_on _ _ _ c.in_ok-found.ensures.left c.in_ok-now.ensures.looks.left) _

pub returns-then-now-most-clause-reads : goal.returns-then-now-most-clause-reads
returns-then-now-most-clause-reads g c =
    reads_then 2 1 3 _ _ _ (le_refl 3) (found_read c.args.self.now.height _ _ c.requires.rooted.height c.in_ok-found.ensures.reads) c.in_ok-now.ensures.looks.reads

pub returns-in_default-clause-reads : goal.returns-in_default-clause-reads
returns-in_default-clause-reads g c =
    reads_then 2 1 3 _ _ _ (le_refl 3) (found_read c.args.self.now.height _ _ c.requires.rooted.height c.in_ok-found.ensures.reads) c.in_ok-now.ensures.looks.reads

pub returns-in_default-2-clause-reads : goal.returns-in_default-2-clause-reads
returns-in_default-2-clause-reads g c =
    reads_then 2 1 3 _ _ _ (le_refl 3) (found_read c.args.self.now.height _ _ c.requires.rooted.height c.in_ok-found.ensures.reads) c.in_ok-now.ensures.looks.reads
