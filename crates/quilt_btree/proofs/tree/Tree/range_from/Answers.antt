use Rattle.std.proofs.Common.{◌∙◌, arith}
use Rattle.quilt_record.specs.Records.{key_cmp}
use Rattle.quilt_record.proofs.Orders.{lt_to_le}
use Rattle.quilt_btree.specs.Looks.{AddsFrom}
use Rattle.quilt_store.proofs.Reading.{only_reads_then, only_reads_ok, only_reads_err}
use Rattle.quilt_btree.proofs.stores.Looks.{first_read, rest_read}
use Rattle.quilt_btree.proofs.Spots.{spot_ends, spot_fills, spot_sound, spot_rest, under_next, never_on, placed_at}
use Rattle.quilt_btree.proofs.ranges.Rests.{no_range, from_not_err}
use Rattle.quilt_btree.proofs.ranges.Spans.{first_within, first_few}
use Rattle.quilt_btree.proofs.ways.Forks.{are_of}
use Rattle.quilt_btree.proofs.Handed.{handed_on}
use Rattle.quilt_btree.proofs.tree.Tree.range_from.Given.{Over}
use Rattle.quilt_btree.proofs.tree.Tree.range_from.Goals.{Else-is_err}
use Rattle.quilt_btree.proofs.tree.Tree.range_from.Goals as goal

-- what the first leaf adds
adds : (g : Over) (c : Else-is_err g) → AddsFrom (g.S.PageStore.told c.args.store.now) c.in-Ok.leaf.1.page c.args.low.now c.args.high.now c.args.most
    c.new-records.result.items c.add_leaf.new.records.items
adds g c =
    let all = from_not_err c.add_leaf.result c.is_err.result c.is_err.ensures.value c.if-is_err.false c.add_leaf.ensures in
    record {
      bytes = c.in-Ok.leaf.0.now;
      are = are_of (g.S.PageStore.told c.args.store.now) c.in-Ok.leaf.1.page c.in-Ok.leaf.0.now c.in-Ok.ensures.bytes;
      some = all.0;
      added = all.1;
      same = all.2;
    }

pub returns-then-self-eq0-clause-range : goal.returns-then-self-eq0-clause-range
returns-then-self-eq0-clause-range g c = λ rs is. c.new-records.ensures.items
    ∙ no_range (g.S.PageStore.told c.args.store.now) c.args.self.now rs c.args.low.now c.args.high.now c.args.most c.if-self-eq0.true is

pub returns-then-len-most-clause-range : goal.returns-then-len-most-clause-range
returns-then-len-most-clause-range g c =
    let leaf = c.in-Ok.ensures in
    spot_fills leaf.spot leaf.key.2 leaf.key.3 (adds g (goal.at.returns-then-len-most-clause-range g c).Else-is_err) c.new-records.ensures.items
    (let e = c.len.ensures in let t = c.if-len-most.true in omega arith)

pub returns-in-None-clause-range : goal.returns-in-None-clause-range
returns-in-None-clause-range g c =
    let leaf = c.in-Ok.ensures in
    spot_ends leaf.spot leaf.key.2 leaf.key.3 (adds g (goal.at.returns-in-None-clause-range g c).Else-is_err) c.new-records.ensures.items c.in-None.ensures

pub returns-in_err-add_rest-in-Some-clause-sound : goal.returns-in_err-add_rest-in-Some-clause-sound
returns-in_err-add_rest-in-Some-clause-sound g c =
    let leaf = c.in-Ok.ensures in
    rw (handed_on c.from_residual.result c.from_residual.ensures.1)
    (spot_sound leaf.spot leaf.key.2 leaf.key.3 (adds g (goal.at.returns-in_err-add_rest-in-Some-clause-sound g c).Else-is_err) c.new-records.ensures.items
    _ c.leaf_from.follows.holds-at-none.0.told c.in-Some.ensures.0 c.in_err-add_rest-in-Some.ensures.sound)

pub returns-in_ok-add_rest-in-Some-clause-range : goal.returns-in_ok-add_rest-in-Some-clause-range
returns-in_ok-add_rest-in-Some-clause-range g c =
    let leaf = c.in-Ok.ensures in
    spot_rest leaf.spot leaf.key.2 leaf.key.3 (adds g (goal.at.returns-in_ok-add_rest-in-Some-clause-range g c).Else-is_err) c.new-records.ensures.items
    c.add_rest.new.records.items c.leaf_from.follows.holds-at-none.0.told c.in-Some.ensures.0 c.in_ok-add_rest-in-Some.ensures.rest

pub returns-then-len-most-clause-spot : goal.returns-then-len-most-clause-spot
returns-then-len-most-clause-spot g c =
    c.widened.ensures.good (g.S.PageStore.told c.args.store.now) c.args.self.now (let ne = c.if-self-eq0.false in omega arith)
    (are_of _ _ _ c.in-Ok.ensures.bytes) c.in-Ok.ensures.spot

pub returns-in-None-clause-spot : goal.returns-in-None-clause-spot
returns-in-None-clause-spot g c =
    c.widened.ensures.good (g.S.PageStore.told c.args.store.now) c.args.self.now (let ne = c.if-self-eq0.false in omega arith)
    (are_of _ _ _ c.in-Ok.ensures.bytes) c.in-Ok.ensures.spot

pub returns-in_ok-add_rest-in-Some-clause-spot : goal.returns-in_ok-add_rest-in-Some-clause-spot
returns-in_ok-add_rest-in-Some-clause-spot g c =
    c.widened.ensures.good (g.S.PageStore.told c.args.store.now) c.args.self.now (let ne = c.if-self-eq0.false in omega arith)
    (are_of _ _ _ c.in-Ok.ensures.bytes) c.in-Ok.ensures.spot

pub returns-then-len-most-clause-fits : goal.returns-then-len-most-clause-fits
returns-then-len-most-clause-fits g c = record {
  number = let e = c.len.ensures in let t = c.if-len-most.true in omega arith;
  within = first_within (adds g (goal.at.returns-then-len-most-clause-fits g c).Else-is_err) c.new-records.ensures.items;
}

pub returns-in-None-clause-fits : goal.returns-in-None-clause-fits
returns-in-None-clause-fits g c =
    let adds = adds g (goal.at.returns-in-None-clause-fits g c).Else-is_err in
    record {
      number = omega (arith, first_few adds c.new-records.ensures.items, c.add_leaf.new.records.ok.0);
      within = first_within adds c.new-records.ensures.items;
    }

pub returns-in_ok-add_rest-in-Some-clause-fits : goal.returns-in_ok-add_rest-in-Some-clause-fits
returns-in_ok-add_rest-in-Some-clause-fits g c = record {
  number = c.in_ok-add_rest-in-Some.ensures.grows.room;
  within = c.in_ok-add_rest-in-Some.ensures.grows.within c.args.low.now
      (lt_to_le (key_cmp c.args.low.now c.in-Some.next)
      (under_next c.args.low.now c.in-Some.next c.in-Ok.leaf.1.high c.in-Ok.ensures.key.3 c.in-Some.ensures.0))
      (first_within (adds g (goal.at.returns-in_ok-add_rest-in-Some-clause-fits g c).Else-is_err) c.new-records.ensures.items);
}

pub returns-then-len-most-clause-from : goal.returns-then-len-most-clause-from
returns-then-len-most-clause-from g c =
    let key = c.in-Ok.ensures.key in
    let wide = c.widened.ensures in
    record {
      here = λ at last. c.leaf_from.follows.holds-at-none.2 at;
      placed = λ some.
          placed_at (g.S.PageStore.size c.args.store.now) c.in-Ok.leaf.1 c.widened.result c.args.low.now (key.0, key.1) (key.2, key.3) (wide.page, wide.high, wide.low);
    }

pub returns-in-None-clause-from : goal.returns-in-None-clause-from
returns-in-None-clause-from g c =
    let key = c.in-Ok.ensures.key in
    let wide = c.widened.ensures in
    record {
      here = λ at last. c.leaf_from.follows.holds-at-none.2 at;
      placed = λ some.
          placed_at (g.S.PageStore.size c.args.store.now) c.in-Ok.leaf.1 c.widened.result c.args.low.now (key.0, key.1) (key.2, key.3) (wide.page, wide.high, wide.low);
    }

pub returns-in_err-add_rest-in-Some-clause-from : goal.returns-in_err-add_rest-in-Some-clause-from
returns-in_err-add_rest-in-Some-clause-from g c =
    rw (handed_on c.from_residual.result c.from_residual.ensures.1) (record {
      here = λ at last. absurd (never_on _ c.args.high.now c.in-Some.next (c.in-Ok.ensures.here at) last c.in-Some.ensures.0 c.in-Some.ensures.1);
      placed = tt;
    })

pub returns-in_ok-add_rest-in-Some-clause-from : goal.returns-in_ok-add_rest-in-Some-clause-from
returns-in_ok-add_rest-in-Some-clause-from g c =
    let key = c.in-Ok.ensures.key in
    let wide = c.widened.ensures in
    record {
      here = λ at last. absurd (never_on _ c.args.high.now c.in-Some.next (c.in-Ok.ensures.here at) last c.in-Some.ensures.0 c.in-Some.ensures.1);
      placed = λ some.
          placed_at (g.S.PageStore.size c.args.store.now) c.in-Ok.leaf.1 c.widened.result c.args.low.now (key.0, key.1) (key.2, key.3) (wide.page, wide.high, wide.low);
    }

pub returns-in_err-add_rest-in-Some-clause-left : goal.returns-in_err-add_rest-in-Some-clause-left
returns-in_err-add_rest-in-Some-clause-left g c =
    rw (handed_on c.from_residual.result c.from_residual.ensures.1)
    (only_reads_err _ (only_reads_then _ g.met.S.PageStore.goes_on _ _ _ c.leaf_from.follows.holds-at-none.0 c.in_err-add_rest-in-Some.ensures.left))

pub returns-in_ok-add_rest-in-Some-clause-left : goal.returns-in_ok-add_rest-in-Some-clause-left
returns-in_ok-add_rest-in-Some-clause-left g c =
    only_reads_ok _ (only_reads_then _ g.met.S.PageStore.goes_on _ _ _ c.leaf_from.follows.holds-at-none.0 c.in_ok-add_rest-in-Some.ensures.left) _

pub returns-then-len-most-clause-reads : goal.returns-then-len-most-clause-reads
returns-then-len-most-clause-reads g c = first_read _ _ _ c.leaf_from.follows.holds-at-none.1

pub returns-in-None-clause-reads : goal.returns-in-None-clause-reads
returns-in-None-clause-reads g c = first_read _ _ _ c.leaf_from.follows.holds-at-none.1

pub returns-in_ok-add_rest-in-Some-clause-reads : goal.returns-in_ok-add_rest-in-Some-clause-reads
returns-in_ok-add_rest-in-Some-clause-reads g c = rest_read _ _ _ _ _ c.leaf_from.follows.holds-at-none.1 c.in_ok-add_rest-in-Some.ensures.reads
