use Rattle.std.proofs.Common.{◌≡◌, ◌-◌, true, false, ◌∙◌, sym, ap, arith, slice_index}
use Rattle.std.specs.Prelude.{is_some}
use Rattle.quilt_node.specs.Pages.{is_ascending}
use Rattle.quilt_node.specs.KeysIn.{keys_in}
use Rattle.quilt_node.specs.Nodes.{inner_head}
use Rattle.quilt_node.proofs.Heads.{test_holds, test_fails}
use Rattle.quilt_node.proofs.InnerReads.{Passes, HasEnds, refused, written_ends, ends_written, by_order}
use Rattle.quilt_node.proofs.inner.is_inner.Goals as goal

true_false : true ≡ false → ⊥
true_false e = cc

pub returns-then-height-lt2 : goal.returns-then-height-lt2
returns-then-height-lt2 c =
    sym (ap is_some (refused c.args.pages c.args.bytes.now c.count_in-n.result c.count_in-n.ensures
    (λ p. omega (arith, c.then-height-lt2.either, p.low, p.high, p.least, p.most))))

pub returns-then-not-has_inner_head : goal.returns-then-not-has_inner_head
returns-then-not-has_inner_head c =
    sym (ap is_some (refused c.args.pages c.args.bytes.now c.count_in-n.result c.count_in-n.ensures
    (λ p. test_fails _ _ c.has_inner_head.result c.has_inner_head.ensures c.if-not-has_inner_head.true
    ((written_ends c.args.bytes.now c.count_in-n.result c.fits-bytes c.told-bytes p.least p.most p.same).head
    ∙ ap (inner_head (slice_index c.args.bytes.now 1)) c.count_in-n.ensures))))

pub returns-then-not-is_clear : goal.returns-then-not-is_clear
returns-then-not-is_clear c =
    sym (ap is_some (refused c.args.pages c.args.bytes.now c.count_in-n.result c.count_in-n.ensures
    (λ p. test_fails _ _ c.is_clear.result c.is_clear.ensures c.if-not-is_clear.true
    (written_ends c.args.bytes.now c.count_in-n.result c.fits-bytes c.told-bytes p.least p.most p.same).between)))

pub returns-then-not-is_clear-2 : goal.returns-then-not-is_clear-2
returns-then-not-is_clear-2 c =
    sym (ap is_some (refused c.args.pages c.args.bytes.now c.count_in-n.result c.count_in-n.ensures
    (λ p. test_fails _ _ c.is_clear-2.result c.is_clear-2.ensures c.if-not-is_clear-2.true
    (written_ends c.args.bytes.now c.count_in-n.result c.fits-bytes c.told-bytes p.least p.most p.same).rest)))

pub returns-then-not-children_are_pages : goal.returns-then-not-children_are_pages
returns-then-not-children_are_pages c =
    sym (ap is_some (refused c.args.pages c.args.bytes.now c.count_in-n.result c.count_in-n.ensures
    (λ p. true_false (sym p.children ∙ sym c.children_are_pages.ensures ∙ c.if-not-children_are_pages.true))))

ends : (c : goal.After-keys_ascend) → HasEnds c.args.bytes.now c.count_in-n.result
ends c = record {
  head = test_holds _ _ c.has_inner_head.result c.has_inner_head.ensures c.if-not-has_inner_head.false
      ∙ ap (inner_head (slice_index c.args.bytes.now 1)) (sym c.count_in-n.ensures);
  between = test_holds _ _ c.is_clear.result c.is_clear.ensures c.if-not-is_clear.false;
  rest = test_holds _ _ c.is_clear-2.result c.is_clear-2.ensures c.if-not-is_clear-2.false;
}

passes : (c : goal.After-keys_ascend) → is_ascending (keys_in c.args.bytes.now 1024 12 (c.count_in-n.result - 1)) ≡ true
    → Passes c.args.pages c.args.bytes.now c.count_in-n.result
passes c order = record {
  low = c.if-height-lt2.false;
  high = c.if-height-gt3.false;
  least = c.if-n-lt2.false;
  most = c.if-n-gt-MOST_CHILDREN.false;
  children = sym c.children_are_pages.ensures ∙ c.if-not-children_are_pages.false;
  ascends = order;
  same = ends_written c.args.bytes.now c.count_in-n.result c.fits-bytes c.told-bytes c.if-n-lt2.false c.if-n-gt-MOST_CHILDREN.false (ends c);
}

pub returns : goal.returns
returns c =
    by_order c.args.pages c.args.bytes.now c.count_in-n.result c.fits-bytes c.told-bytes c.count_in-n.ensures c.ranges.pages.fits (passes c)
    c.keys_ascend.result c.keys_ascend.ensures
