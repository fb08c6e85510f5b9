use Rattle.std.proofs.Common.{ap, [], ◌∷◌, slice_index}
use Rattle.quilt_node.proofs.Leaves.{filled_page}
use Rattle.quilt_node.proofs.leaf.leaf_page.Goals as goal

pub returns : goal.returns
returns c =
    filled_page c.args.n (1 ∷ 1 ∷ slice_index c.to_be_bytes.result 0 ∷ slice_index c.to_be_bytes.result 1 ∷ [])
    c.put_over.new.bytes c.put_over-2.new.bytes c.args.rows.now
    (ap (λ l. 1 ∷ 1 ∷ slice_index l 0 ∷ slice_index l 1 ∷ []) c.to_be_bytes.ensures) c.put_over.ensures c.put_over-2.ensures
