use Rattle.std.proofs.Common.{ℕ, List, [], ◌∷◌, ◌++◌, ◌∙◌, ap, slice_index}
use Rattle.std.specs.Int.{to_be_bytes, w32}
use Rattle.quilt_node.specs.Pages.{magic}
use Rattle.quilt_node.proofs.Headers.{filled_header}
use Rattle.quilt_node.proofs.header.page_of.Goals as goal

abbrev four : List ℕ → List ℕ
four l = slice_index l 0 ∷ slice_index l 1 ∷ slice_index l 2 ∷ slice_index l 3 ∷ []

abbrev started : (f e r n : List ℕ) (level height : ℕ) → List ℕ
started f e r n level height = magic ++ four f ++ four e ++ (level ∷ height ∷ 0 ∷ 0 ∷ []) ++ four r ++ four n

pub returns : goal.returns
returns c =
    let h = c.args.h.now in
    let f = c.to_be_bytes-f.ensures ∙ ap (to_be_bytes w32) c.from.ensures in
    let e = c.to_be_bytes-e.ensures in
    let r = c.to_be_bytes-r.ensures in
    let n = c.to_be_bytes-n.ensures in
    filled_header h (started c.to_be_bytes-f.result c.to_be_bytes-e.result c.to_be_bytes-r.result c.to_be_bytes-n.result h.level h.height) c.put_over.new.bytes
    (λ i. started (f i) (e i) (r i) (n i) h.level h.height) c.put_over.ensures
