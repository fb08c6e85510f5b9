use Rattle.std.proofs.Common.{slice_index, refl, arith, ◌∙◌}
use Rattle.quilt_node.proofs.Heads.{head_zeros, other_head}
use Rattle.quilt_node.proofs.inner.has_inner_head.Goals as goal

pub returns-then-bytes-ne2 : goal.returns-then-bytes-ne2
returns-then-bytes-ne2 c =
    other_head c.args.bytes.now 2 (slice_index c.args.bytes.now 1) 8 c.fits-bytes (omega arith) (omega (arith, c.told-bytes)) (λ g h. c.if-bytes-ne2.true g)

pub returns : goal.returns
returns c = c.is_clear.ensures
    ∙ head_zeros c.args.bytes.now 2 (slice_index c.args.bytes.now 1) 8 c.fits-bytes (omega arith) (omega (arith, c.told-bytes)) c.if-bytes-ne2.false refl
