use Rattle.std.proofs.Common.{◌≡◌, ◌<◌, ◌≤◌, ◌+◌, ◌-◌, ◌++◌, take, filter, length, sym, ◌∙◌, arith}
use Rattle.quilt_node.specs.Nodes.{page_records}
use Rattle.quilt_btree.specs.Lists.{is_from_to}
use Rattle.quilt_btree.proofs.ranges.Parts.{part, no_place, add_place, skip_place}
use Rattle.quilt_btree.proofs.ranges.Ranges.{full_list, below_most}
use Rattle.quilt_btree.proofs.span.add_span.Goals as goal
use Rattle.quilt_btree.proofs.span.add_span.Goals.{then-is_within+in_ok-push, else-is_within}

pub loop-i-init : goal.loop-i-init
loop-i-init c = record {
  least = omega arith;
  items = no_place (is_from_to c.args.low.now c.args.high.now) c.args.most c.args.first c.args.last c.args.records.now.items
      (page_records c.args.bytes.now) (let r = c.requires.room in omega (arith, c.args.records.now.ok.0));
}

pub returns-then-len-most : goal.returns-then-len-most
returns-then-len-most c =
    let full : length c.loop-i.records.items ≡ c.args.most = let e = c.len.ensures in let t = c.if-len-most.true in omega (arith, c.loop-i.records.ok.0) in
    full_list (is_from_to c.args.low.now c.args.high.now) c.args.most (c.loop-i.i - c.args.first) c.args.records.now.items c.loop-i.records.items
    (part c.args.first c.args.last (page_records c.args.bytes.now)) c.loop-i.invariant.items full

pub loop-i-preserved : goal.loop-i-preserved
loop-i-preserved c =
    let least : c.args.first ≤ c.loop-i.i + 1 = let h = c.loop-i.invariant.least in omega arith in
    let lt : c.loop-i.i < c.args.last = c.loop-i-test.true in
    let at = c.rec_in-r.ensures.stands (let h = c.requires.last.1 in omega arith) in
    elim c.if-is_within.branch [
      | then-is_within+in_ok-push w ↦
          let underfull : length c.loop-i.records.items < c.args.most =
          below_most c.args.most (c.args.records.now.items
          ++ filter (is_from_to c.args.low.now c.args.high.now)
          (take (c.loop-i.i - c.args.first) (part c.args.first c.args.last (page_records c.args.bytes.now))))
          c.loop-i.records.items c.loop-i.invariant.items (λ full. c.if-len-most.false (let e = c.len.ensures in omega (arith, c.loop-i.records.ok.0))) in
          let s = add_place (is_from_to c.args.low.now c.args.high.now) c.args.most c.args.first c.args.last c.loop-i.i c.args.records.now.items
          c.loop-i.records.items (page_records c.args.bytes.now) c.rec_in-r.result c.loop-i.invariant.least lt at c.loop-i.invariant.items
          underfull (sym c.is_within.ensures ∙ w.if-is_within.true) in
          record { least = least; items = rw w.records-is (rw (w.push.ensures.items, w.in_ok-push.was) s) }
      | else-is_within w ↦
          let s = skip_place (is_from_to c.args.low.now c.args.high.now) c.args.most c.args.first c.args.last c.loop-i.i c.args.records.now.items
          c.loop-i.records.items (page_records c.args.bytes.now) c.rec_in-r.result c.loop-i.invariant.least lt at c.loop-i.invariant.items
          (sym c.is_within.ensures ∙ w.if-is_within.false) in
          record { least = least; items = rw w.records-is s }
    ]
