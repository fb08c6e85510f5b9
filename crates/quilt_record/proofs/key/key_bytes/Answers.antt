use Rattle.std.proofs.Common.{rules, ◌≡◌, ℕ, List, [], ◌∷◌, slice_index, ◌∙◌, ap, nat_cmp}
use Rattle.std.specs.Cmp.Lexicographic.{slice_cmp}
use Rattle.quilt_record.specs.Records.{key_bytes}
use Rattle.quilt_record.specs.Fits.{KeyFits}
use Rattle.quilt_record.proofs.KeyOrder.{bytes_order}
use Rattle.quilt_record.proofs.key.key_bytes.Goals as goal

-- the bytes from those of the three numbers of more than one byte
abbrev joined : (layer code item : List ℕ) (part depth : ℕ) → List ℕ
joined layer code item part depth =
    slice_index layer 0 ∷ slice_index layer 1 ∷ part ∷ slice_index code 0 ∷ slice_index code 1 ∷ slice_index code 2 ∷ slice_index code 3 ∷ depth
    ∷ slice_index item 0 ∷ slice_index item 1 ∷ slice_index item 2 ∷ slice_index item 3 ∷ []

pub returns-clause-order : goal.returns-clause-order
returns-clause-order c other fits =
    let k = c.args.k.now in
    let layer = c.to_be_bytes.ensures in
    let code = c.to_be_bytes-2.ensures in
    let item = c.to_be_bytes-3.ensures in
    let own : KeyFits k = search rules in
    let bytes : joined c.to_be_bytes.result c.to_be_bytes-2.result c.to_be_bytes-3.result k.part k.depth ≡ key_bytes k =
    λ i. joined (layer i) (code i) (item i) k.part k.depth in
    ap (λ l. slice_cmp nat_cmp l (key_bytes other)) bytes ∙ bytes_order k other own fits
