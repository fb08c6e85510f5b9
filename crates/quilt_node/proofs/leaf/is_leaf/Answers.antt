use Rattle.std.proofs.Common.{◌<◌, ◌≤◌, ◌⊎◌, ℕ, ◌∙◌, sym, ap, arith}
use Rattle.std.specs.Prelude.{is_some}
use Rattle.quilt_node.specs.Nodes.{leaf_head}
use Rattle.quilt_node.proofs.Heads.{test_holds, test_fails}
use Rattle.quilt_node.proofs.LeafReads.{bad_count, bad_ends, by_order}
use Rattle.quilt_node.proofs.leaf.is_leaf.Goals as goal

outside : (n : ℕ) → (n < 1) ⊎ ((1 ≤ n) × (144 < n)) → 1 ≤ n → n ≤ 144 → ⊥
outside n h a b = omega (arith, h)

pub returns-then-n-lt1 : goal.returns-then-n-lt1
returns-then-n-lt1 c = sym (ap is_some (bad_count c.args.bytes.now c.count_in-n.result c.count_in-n.ensures (outside c.count_in-n.result c.then-n-lt1.either)))

pub returns-then-not-has_leaf_head : goal.returns-then-not-has_leaf_head
returns-then-not-has_leaf_head c =
    let n = c.count_in-n.result in
    sym (ap is_some (bad_ends c.args.bytes.now n c.fits-bytes c.told-bytes c.count_in-n.ensures c.if-n-gt-MOST_RECORDS.false
    (λ ends. test_fails _ _ c.has_leaf_head.result c.has_leaf_head.ensures c.if-not-has_leaf_head.true (ends.head ∙ ap leaf_head c.count_in-n.ensures))))

pub returns-then-not-is_clear : goal.returns-then-not-is_clear
returns-then-not-is_clear c =
    sym (ap is_some (bad_ends c.args.bytes.now c.count_in-n.result c.fits-bytes c.told-bytes c.count_in-n.ensures c.if-n-gt-MOST_RECORDS.false
    (λ ends. test_fails _ _ c.is_clear.result c.is_clear.ensures c.if-not-is_clear.true ends.rest)))

pub returns : goal.returns
returns c =
    by_order c.args.bytes.now c.count_in-n.result c.fits-bytes c.told-bytes c.count_in-n.ensures c.if-n-lt1.false c.if-n-gt-MOST_RECORDS.false
    (record {
      head = test_holds _ _ c.has_leaf_head.result c.has_leaf_head.ensures c.if-not-has_leaf_head.false ∙ ap leaf_head (sym c.count_in-n.ensures);
      rest = test_holds _ _ c.is_clear.result c.is_clear.ensures c.if-not-is_clear.false;
    })
    c.keys_ascend.result c.keys_ascend.ensures
