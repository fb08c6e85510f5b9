use Rattle.std.proofs.Common.{ap, [], ◌∷◌, slice_index}
use Rattle.quilt_node.proofs.Inners.{filled_inner}
use Rattle.quilt_node.proofs.inner.page_of_children.Goals as goal

pub returns : goal.returns
returns c =
    filled_inner c.args.height c.args.n (2 ∷ c.args.height ∷ slice_index c.to_be_bytes.result 0 ∷ slice_index c.to_be_bytes.result 1 ∷ [])
    c.put_over.new.bytes c.put_over-2.new.bytes
    c.args.children.now (ap (λ l. 2 ∷ c.args.height ∷ slice_index l 0 ∷ slice_index l 1 ∷ []) c.to_be_bytes.ensures)
    c.requires c.put_over.ensures c.put_over-2.ensures
