use Rattle.std.proofs.Common.{List, false, refl, sym, ◌∙◌, ap, subst, Contains}
use Rattle.quilt_node.specs.Pages.{is_ascending}
use Rattle.quilt_node.specs.Nodes.{keys_of}
use Rattle.quilt_record.specs.declared.record.Record.{Record}
use Rattle.std.proofs.lemmas.Bool.{both_ways}
use Rattle.quilt_edits.proofs.Ascents.{permuted, sorted_ascends}
use Rattle.quilt_edits.proofs.edits.edits_of.Goals as goal

pub returns-then-not-is_in_order-clause-memory : goal.returns-then-not-is_in_order-clause-memory
returns-then-not-is_in_order-clause-memory c can =
    let up = sorted_ascends c.args.remove.items c.sort.new.records.items c.sort.ensures.permutation c.sort.ensures.sorted can.remove_keys in
    absurd (both_ways false refl
    (sym c.if-not-is_in_order.true ∙ c.is_in_order.ensures.no (ap (λ (l : List Record). is_ascending (keys_of l)) c.deref.ensures.value ∙ up)))

pub returns-then-not-is_in_order-2-clause-memory : goal.returns-then-not-is_in_order-2-clause-memory
returns-then-not-is_in_order-2-clause-memory c can =
    let up = sorted_ascends c.args.add.items c.sort-2.new.records.items c.sort-2.ensures.permutation c.sort-2.ensures.sorted can.add_keys in
    absurd (both_ways false refl
    (sym c.if-not-is_in_order-2.true ∙ c.is_in_order-2.ensures.no (ap (λ (l : List Record). is_ascending (keys_of l)) c.deref-2.ensures.value ∙ up)))

pub returns-then-not-are_apart-clause-memory : goal.returns-then-not-are_apart-clause-memory
returns-then-not-are_apart-clause-memory c can =
    absurd (both_ways false refl (sym c.if-not-are_apart.true ∙ c.are_apart.ensures.no (λ r a b.
    can.apart r
    ((permuted c.args.remove.items c.sort.new.records.items c.sort.ensures.permutation r).1
    (subst (λ (l : List Record). Contains l r) c.deref-3.ensures.value a))
    ((permuted c.args.add.items c.sort-2.new.records.items c.sort-2.ensures.permutation r).1
    (subst (λ (l : List Record). Contains l r) c.deref-4.ensures.value b)))))

pub invariant_of-result : goal.invariant_of-result
invariant_of-result c = record {
  apart = λ r a b. c.are_apart.ensures.yes c.if-not-are_apart.false r
      (subst (λ (l : List Record). Contains l r) (c.of.ensures ∙ sym c.deref-3.ensures.value) a)
      (subst (λ (l : List Record). Contains l r) (c.of-2.ensures ∙ sym c.deref-4.ensures.value) b);
}
