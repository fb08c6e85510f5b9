use Rattle.std.proofs.Common.{◌≡◌, true, ◌<◌, vec_len, arith}
use Rattle.std.specs.Ordering.{is_lt}
use Rattle.quilt_store.proofs.Reading.{only_reads_then, only_reads_ok}
use Rattle.quilt_record.specs.Records.{key_cmp}
use Rattle.quilt_btree.proofs.ranges.Spans.{le_on, at_some}
use Rattle.quilt_btree.proofs.ranges.Rests.{if_some, none_is, loop_goes_on, loop_ends, loop_sound, loop_reads, more_reads}
use Rattle.quilt_btree.proofs.ways.Damage.{names_along}
use Rattle.quilt_btree.proofs.Handed.{handed_on}
use Rattle.quilt_btree.proofs.tree.Tree.add_rest.Goals as goal

pub returns-in_err-k-clause-sound : goal.returns-in_err-k-clause-sound
returns-in_err-k-clause-sound g c =
    rw (handed_on c.from_residual.result c.from_residual.ensures.1)
    (loop_sound _ c.loop-k.invariant.left.told c.loop-k.invariant.goes_on c.in_err-k.ensures.sound)

pub loop-k-preserved : goal.loop-k-preserved
loop-k-preserved g c =
    let adds = if_some c.in_ok-k.field-0 c.in-Some.k (vec_len c.loop-k.records < vec_len c.add_next.new.records) c.in-Some.is
    c.in_ok-k.ensures.goes_on.adds in
    record {
      goes_on = loop_goes_on c.add_next.new.records.items c.loop-k.invariant.left.told c.in-Some.is c.loop-k.invariant.goes_on c.in_ok-k.ensures.goes_on.goes_on;
      room = c.in_ok-k.ensures.grows.room;
      within = λ low le old.
          let so_far = c.loop-k.invariant.within low le old in
          let on = at_some c.in_ok-k.field-0 c.in-Some.k (λ k. is_lt (key_cmp c.loop-k.next k) ≡ true) c.in-Some.is
          c.in_ok-k.ensures.goes_on.further in
          (le_on low c.loop-k.next c.in-Some.k so_far.0 on, c.in_ok-k.ensures.grows.within low so_far.0 so_far.1);
      more = let m = c.loop-k.invariant.more in let n = c.in_ok-k.ensures.grows.more in omega arith;
      left = only_reads_ok _ (only_reads_then _ g.met.S.PageStore.goes_on _ _ _ c.loop-k.invariant.left c.in_ok-k.ensures.left) tt;
      reads = more_reads _ _ (vec_len c.args.records.now) (vec_len c.loop-k.records) (vec_len c.add_next.new.records) adds
          (loop_reads _ _ _ (vec_len c.args.records.now) (vec_len c.loop-k.records) c.loop-k.invariant.reads c.in_ok-k.ensures.reads);
    }

pub returns-clause-rest : goal.returns-clause-rest
returns-clause-rest g c =
    loop_ends c.add_next.new.records.items c.loop-k.invariant.left.told (none_is c.in_ok-k.field-0 c.in_default.not-Some) c.loop-k.invariant.goes_on c.in_ok-k.ensures.goes_on.ends

pub returns-clause-grows : goal.returns-clause-grows
returns-clause-grows g c = record {
  room =
      c.in_ok-k.ensures.grows.room;
  within =
      λ low le old.
      let so_far = c.loop-k.invariant.within low le old in
      c.in_ok-k.ensures.grows.within low so_far.0 so_far.1;
  more =
      let m = c.loop-k.invariant.more in let n = c.in_ok-k.ensures.grows.more in omega arith;
}

pub returns-in_err-k-clause-bad : goal.returns-in_err-k-clause-bad
returns-in_err-k-clause-bad g c =
    rw (handed_on c.from_residual.result c.from_residual.ensures.1)
    (names_along (g.S.PageStore.told c.args.store.now) (g.S.PageStore.told c.loop-k.store) c.args.self.now.height c.args.self.now.root
    _ c.loop-k.invariant.left.told c.in_err-k.ensures.bad)
