use Rattle.std.proofs.Common.{ℕ, List, ◌∷◌, [], ◌++◌, ◌∙◌, refl, sym, ap, slice_index}
use Rattle.std.proofs.lemmas.List.{append-nil}
use Rattle.std.specs.Int.{to_be_bytes, w32}
use Rattle.quilt_record.specs.Records.{key_bytes}
use Rattle.quilt_node.specs.Nodes.{IsInnerPage}
use Rattle.quilt_node.proofs.Inners.{read_again, read_back}
use Rattle.quilt_node.proofs.InnerEdits.{made_page, pair_inner}
use Rattle.quilt_node.proofs.inner.InnerPage.pair.Goals as goal

abbrev four : List ℕ → List ℕ
four l = slice_index l 0 ∷ slice_index l 1 ∷ slice_index l 2 ∷ slice_index l 3 ∷ []

made : (c : goal.After-put_over)
    → IsInnerPage c.put_over.new.bytes (record { height = c.args.height; children = c.args.left ∷ c.args.right ∷ []; keys = c.args.key.now ∷ [] })
made c =
    made_page c.page_of_children-page.result c.put_over.new.bytes (four c.to_be_bytes-l.result ++ four c.to_be_bytes-r.result) c.key_bytes.result
    (record { height = c.args.height; children = c.args.left ∷ c.args.right ∷ []; keys = c.args.key.now ∷ [] }) c.args.height 2
    (pair_inner c.args.height c.args.left c.args.right c.args.key.now c.requires.height c.requires.children c.ranges.left.fits c.ranges.right.fits
    c.key_bytes.ensures.fits) refl refl
    (ap (λ l. four l ++ four c.to_be_bytes-r.result) c.to_be_bytes-l.ensures ∙ ap (λ l. to_be_bytes w32 c.args.left ++ four l) c.to_be_bytes-r.ensures)
    (c.key_bytes.ensures.bytes ∙ sym (append-nil (key_bytes c.args.key.now))) c.page_of_children-page.ensures c.put_over.ensures

pub invariant_of-result : goal.invariant_of-result
invariant_of-result c = read_again c.put_over.new.bytes _ (made c)

pub returns : goal.returns
returns c = read_back c.put_over.new.bytes _ (made c)
