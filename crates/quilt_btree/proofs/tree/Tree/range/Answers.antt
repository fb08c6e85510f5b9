use Rattle.std.proofs.Common.{refl, ◌∙◌, ap, arith, le_refl}
use Rattle.std.specs.List.{list_all}
use Rattle.quilt_record.specs.Records.{key_cmp}
use Rattle.quilt_store.proofs.Reading.{only_reads_then, only_reads_ok, only_reads_err}
use Rattle.quilt_btree.specs.Lists.{is_from_to}
use Rattle.quilt_record.proofs.Orders.{lt_to_le}
use Rattle.quilt_world.proofs.ReadCounts.{reads_then}
use Rattle.quilt_btree.proofs.stores.Looks.{only_reads_handed, found_read, first_read, rest_read}
use Rattle.quilt_btree.proofs.ranges.Spans.{first_within, above_bound}
use Rattle.quilt_btree.proofs.subtrees.Whole.{sound_whole}
use Rattle.quilt_btree.proofs.ranges.Rests.{no_range}
use Rattle.quilt_btree.proofs.Spots.{added_along, leads_from, spot_ends, spot_fills, spot_sound, spot_rest}
use Rattle.quilt_btree.proofs.ways.Leaves.{same_le}
use Rattle.quilt_btree.proofs.Handed.{handed_on}
use Rattle.quilt_btree.proofs.tree.Tree.range.Goals as goal

pub returns-then-self-eq0-clause-range : goal.returns-then-self-eq0-clause-range
returns-then-self-eq0-clause-range g c = λ rs is. c.new-records.ensures.items
    ∙ no_range (g.S.PageStore.told c.args.store.now) c.args.self.now rs c.args.low.now c.args.high.now c.args.most c.if-self-eq0.true is

pub returns-in_err-found-clause-sound : goal.returns-in_err-found-clause-sound
returns-in_err-found-clause-sound g c =
    rw (handed_on c.from_residual.result c.from_residual.ensures.1)
    (sound_whole _ (g.S.PageStore.told c.args.store.now) c.args.self.now c.if-self-eq0.false c.in_err-found.ensures.sound)

pub returns-then-now-most-clause-range : goal.returns-then-now-most-clause-range
returns-then-now-most-clause-range g c =
    spot_fills (leads_from _ _ _ _ _ (let ne = c.if-self-eq0.false in omega arith) c.in_ok-found.ensures.arrives) (same_le c.args.low.now)
    (c.in_ok-found.ensures.range.above refl) (added_along c.in_ok-found.ensures.left.told c.in_ok-now.ensures.adds) c.new-records.ensures.items
    (let e = c.in_ok-now.ensures.number in let t = c.if-now-most.true in omega arith)

pub returns-in-None-clause-range : goal.returns-in-None-clause-range
returns-in-None-clause-range g c =
    spot_ends (leads_from _ _ _ _ _ (let ne = c.if-self-eq0.false in omega arith) c.in_ok-found.ensures.arrives) (same_le c.args.low.now)
    (c.in_ok-found.ensures.range.above refl) (added_along c.in_ok-found.ensures.left.told c.in_ok-now.ensures.adds) c.new-records.ensures.items
    c.in-None.ensures

pub returns-in_err-add_rest-in-Some-clause-sound : goal.returns-in_err-add_rest-in-Some-clause-sound
returns-in_err-add_rest-in-Some-clause-sound g c =
    rw (handed_on c.from_residual-in_err-add_rest-in-Some.result c.from_residual-in_err-add_rest-in-Some.ensures.1)
    (spot_sound (leads_from _ _ _ _ _ (let ne = c.if-self-eq0.false in omega arith) c.in_ok-found.ensures.arrives) (same_le c.args.low.now)
    (c.in_ok-found.ensures.range.above refl) (added_along c.in_ok-found.ensures.left.told c.in_ok-now.ensures.adds) c.new-records.ensures.items
    _ (c.in_ok-now.ensures.looks.left.told ∙ c.in_ok-found.ensures.left.told) c.in-Some.ensures.0 c.in_err-add_rest-in-Some.ensures.sound)

pub returns-in_ok-add_rest-in-Some-clause-range : goal.returns-in_ok-add_rest-in-Some-clause-range
returns-in_ok-add_rest-in-Some-clause-range g c =
    spot_rest (leads_from _ _ _ _ _ (let ne = c.if-self-eq0.false in omega arith) c.in_ok-found.ensures.arrives) (same_le c.args.low.now)
    (c.in_ok-found.ensures.range.above refl) (added_along c.in_ok-found.ensures.left.told c.in_ok-now.ensures.adds) c.new-records.ensures.items
    c.add_rest.new.records.items (c.in_ok-now.ensures.looks.left.told ∙ c.in_ok-found.ensures.left.told) c.in-Some.ensures.0 c.in_ok-add_rest-in-Some.ensures.rest

pub returns-then-self-eq0-clause-within : goal.returns-then-self-eq0-clause-within
returns-then-self-eq0-clause-within g c = ap (list_all (is_from_to c.args.low.now c.args.high.now)) c.new-records.ensures.items

pub returns-then-now-most-clause-within : goal.returns-then-now-most-clause-within
returns-then-now-most-clause-within g c =
    first_within c.in_ok-now.ensures.adds c.new-records.ensures.items

pub returns-in-None-clause-within : goal.returns-in-None-clause-within
returns-in-None-clause-within g c =
    first_within c.in_ok-now.ensures.adds c.new-records.ensures.items

pub returns-in_ok-add_rest-in-Some-clause-within : goal.returns-in_ok-add_rest-in-Some-clause-within
returns-in_ok-add_rest-in-Some-clause-within g c =
    c.in_ok-add_rest-in-Some.ensures.grows.within c.args.low.now
    (lt_to_le (key_cmp c.args.low.now c.in-Some.next)
    (above_bound c.args.low.now c.in-Some.next c.in_ok-found.found.high c.in_ok-found.ensures.range.above c.in-Some.ensures.0))
    (first_within c.in_ok-now.ensures.adds c.new-records.ensures.items)

pub returns-in_err-found-clause-bad : goal.returns-in_err-found-clause-bad
returns-in_err-found-clause-bad g c =
    rw (handed_on c.from_residual.result c.from_residual.ensures.1) (λ ne. c.in_err-found.ensures.bad)

pub returns-in_err-add_rest-in-Some-clause-left : goal.returns-in_err-add_rest-in-Some-clause-left
returns-in_err-add_rest-in-Some-clause-left g c =
    rw (handed_on c.from_residual-in_err-add_rest-in-Some.result c.from_residual-in_err-add_rest-in-Some.ensures.1)
    (only_reads_err _ (only_reads_then _ g.met.S.PageStore.goes_on _ _ _ c.in_ok-found.ensures.left
    (only_reads_then _ g.met.S.PageStore.goes_on _ _ _ c.in_ok-now.ensures.looks.left c.in_err-add_rest-in-Some.ensures.left)))

pub returns-in_ok-add_rest-in-Some-clause-left : goal.returns-in_ok-add_rest-in-Some-clause-left
returns-in_ok-add_rest-in-Some-clause-left g c =
    only_reads_ok _ (only_reads_then _ g.met.S.PageStore.goes_on _ _ _ c.in_ok-found.ensures.left
    (only_reads_then _ g.met.S.PageStore.goes_on _ _ _ c.in_ok-now.ensures.looks.left c.in_ok-add_rest-in-Some.ensures.left)) _

pub returns-in_err-found-clause-left : goal.returns-in_err-found-clause-left
returns-in_err-found-clause-left g c = only_reads_handed _ c.from_residual.ensures.1 c.in_err-found.ensures.left

pub returns-in_err-now-clause-left : goal.returns-in_err-now-clause-left
returns-in_err-now-clause-left g c =
    only_reads_handed _ c.from_residual-in_err-now.ensures.1
    (only_reads_then _ g.met.S.PageStore.goes_on _ _ _ c.in_ok-found.ensures.left c.in_err-now.ensures.looks.left)

pub returns-then-now-most-clause-left : goal.returns-then-now-most-clause-left
returns-then-now-most-clause-left g c =
    only_reads_ok _ (only_reads_then _ g.met.S.PageStore.goes_on _ _ _ c.in_ok-found.ensures.left c.in_ok-now.ensures.looks.left) _

pub returns-in-None-clause-left : goal.returns-in-None-clause-left
returns-in-None-clause-left g c =
    only_reads_ok _ (only_reads_then _ g.met.S.PageStore.goes_on _ _ _ c.in_ok-found.ensures.left c.in_ok-now.ensures.looks.left) _

pub returns-then-now-most-clause-reads : goal.returns-then-now-most-clause-reads
returns-then-now-most-clause-reads g c =
    first_read _ _ _
    (reads_then 2 1 3 _ _ _ (le_refl 3) (found_read c.args.self.now.height _ _ c.requires.height c.in_ok-found.ensures.reads) c.in_ok-now.ensures.looks.reads)

pub returns-in-None-clause-reads : goal.returns-in-None-clause-reads
returns-in-None-clause-reads g c =
    first_read _ _ _
    (reads_then 2 1 3 _ _ _ (le_refl 3) (found_read c.args.self.now.height _ _ c.requires.height c.in_ok-found.ensures.reads) c.in_ok-now.ensures.looks.reads)

pub returns-in_ok-add_rest-in-Some-clause-reads : goal.returns-in_ok-add_rest-in-Some-clause-reads
returns-in_ok-add_rest-in-Some-clause-reads g c =
    rest_read _ _ _ _ _
    (reads_then 2 1 3 _ _ _ (le_refl 3) (found_read c.args.self.now.height _ _ c.requires.height c.in_ok-found.ensures.reads) c.in_ok-now.ensures.looks.reads)
    c.in_ok-add_rest-in-Some.ensures.reads
