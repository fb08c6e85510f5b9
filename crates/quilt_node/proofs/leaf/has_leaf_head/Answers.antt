use Rattle.std.proofs.Common.{◌≡◌, slice_index, arith, ◌∙◌}
use Rattle.quilt_node.proofs.Heads.{head_zeros, other_head}
use Rattle.quilt_node.proofs.leaf.has_leaf_head.Goals.{then-bytes-ne1-via-then-bytes-ne1, then-bytes-ne1-via-else-bytes-ne1+then-bytes-ne1-2}
use Rattle.quilt_node.proofs.leaf.has_leaf_head.Goals as goal

other : (c : goal.Joined-then-bytes-ne1) → slice_index c.args.bytes.now 0 ≡ 1 → slice_index c.args.bytes.now 1 ≡ 1 → ⊥
other c g h = elim c.then-bytes-ne1.branch [
  | then-bytes-ne1-via-then-bytes-ne1 w ↦ w.if-bytes-ne1.true g
  | then-bytes-ne1-via-else-bytes-ne1+then-bytes-ne1-2 w ↦ w.if-bytes-ne1-2.true h
]

pub returns-then-bytes-ne1 : goal.returns-then-bytes-ne1
returns-then-bytes-ne1 c = other_head c.args.bytes.now 1 1 64 c.fits-bytes (omega arith) (omega (arith, c.told-bytes)) (other c)

pub returns : goal.returns
returns c =
    c.is_clear.ensures ∙ head_zeros c.args.bytes.now 1 1 64 c.fits-bytes (omega arith) (omega (arith, c.told-bytes)) c.if-bytes-ne1.false c.if-bytes-ne1-2.false
