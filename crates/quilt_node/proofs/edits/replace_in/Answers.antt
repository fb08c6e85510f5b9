use Rattle.std.proofs.Common.{◌∙◌, ap, rules}
use Rattle.quilt_node.specs.Pages.{is_ascending}
use Rattle.quilt_node.proofs.Leaves.{replace_page, keys_stay, leaf_of_page}
use Rattle.quilt_node.proofs.LeafReads.{page_of}
use Rattle.quilt_node.proofs.edits.replace_in.Goals as goal

pub returns : goal.returns
returns c = λ rs is f.
    let p = page_of c.args.bytes.now rs (search rules) (search rules) is in
    leaf_of_page _ _ (replace_page c.args.bytes.now c.put_over.new.bytes c.record_piece.result rs c.args.i c.args.r.now p c.record_piece.ensures.fits f.in_range
    (ap is_ascending (keys_stay rs c.args.i c.args.r.now f.found f.here f.key) ∙ p.is_leaf.ascends) c.record_piece.ensures.bytes c.put_over.ensures)
