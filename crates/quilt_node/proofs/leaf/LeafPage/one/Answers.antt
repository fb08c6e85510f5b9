use Rattle.std.proofs.Common.{◌∷◌, [], ◌∙◌, refl, sym}
use Rattle.std.proofs.lemmas.List.{append-nil}
use Rattle.quilt_record.specs.Records.{record_bytes}
use Rattle.quilt_node.specs.Nodes.{IsLeafPage}
use Rattle.quilt_node.proofs.Leaves.{made_page, one_leaf, read_again, read_back}
use Rattle.quilt_node.proofs.leaf.LeafPage.one.Goals as goal

made : (c : goal.After-leaf_page) → IsLeafPage c.leaf_page.result (c.args.r.now ∷ [])
made c =
    made_page c.leaf_page.result c.record_piece.result (c.args.r.now ∷ []) 1 (one_leaf c.args.r.now c.record_piece.ensures.fits) refl
    (c.record_piece.ensures.bytes ∙ sym (append-nil (record_bytes c.args.r.now))) c.leaf_page.ensures

pub invariant_of-result : goal.invariant_of-result
invariant_of-result c = read_again c.leaf_page.result _ (made c)

pub returns : goal.returns
returns c = read_back c.leaf_page.result _ (made c)
