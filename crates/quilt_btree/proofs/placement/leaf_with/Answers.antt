use Rattle.std.proofs.Common.{◌≡◌, ◌∷◌, ◌∙◌, true, ap, sym, subst, arith}
use Rattle.std.proofs.lemmas.List.{take_all}
use Rattle.std.specs.List.{insert}
use Rattle.quilt_node.specs.Nodes.{keys_of}
use Rattle.quilt_node.specs.Pages.{is_ascending}
use Rattle.quilt_btree.specs.Batches.{records_put}
use Rattle.quilt_btree.proofs.batches.Puts.{filled_next, filled_order, filled_room, put_at, puts_all}
use Rattle.quilt_btree.proofs.placement.leaf_with.Goals.{in-Put, in_default}
use Rattle.quilt_btree.proofs.placement.leaf_with.Goals as goal

pub loop-e-init : goal.loop-e-init
loop-e-init c = c.one-leaf.ensures

pub insert-requires-clause-room : goal.insert-requires-clause-room
insert-requires-clause-room c =
    filled_room c.args.r.now c.in-Put.record c.args.run.now c.loop-e.e-index c.loop-e.leaf c.loop-e.invariant c.loop-e-test.true c.requires.puts
    c.requires.room

pub insert-requires-clause-order : goal.insert-requires-clause-order
insert-requires-clause-order c =
    subst (λ n. is_ascending (keys_of (insert c.loop-e.leaf n c.in-Put.record)) ≡ true) (sym c.len-end.ensures.length)
    (filled_order c.args.r.now c.in-Put.record c.args.run.now c.loop-e.e-index c.loop-e.leaf c.loop-e.invariant c.loop-e-test.true c.requires.puts
    c.in-Put.is c.requires.order)

pub loop-e-preserved : goal.loop-e-preserved
loop-e-preserved c =
    elim c.match-e.branch [
      | in-Put w ↦ w.leaf-is ∙ w.insert.ensures ∙ ap (λ n. insert c.loop-e.leaf n w.in-Put.record) w.len-end.ensures.length
          ∙ filled_next c.args.r.now w.in-Put.record c.args.run.now c.loop-e.e-index c.loop-e.leaf c.loop-e.invariant c.loop-e-test.true c.requires.puts
          w.in-Put.is
      | in_default w ↦ absurd (put_at c.args.run.now c.loop-e.e-index c.loop-e-test.true c.requires.puts w.in_default.not-Put)
    ]

pub returns : goal.returns
returns c =
    let e = c.loop-e-test.false in
    c.loop-e.invariant ∙ ap (λ l. c.args.r.now ∷ records_put l) (take_all c.loop-e.e-index c.args.run.now (omega arith))
    ∙ (puts_all c.args.r.now c.args.run.now c.requires.puts c.requires.order).is
