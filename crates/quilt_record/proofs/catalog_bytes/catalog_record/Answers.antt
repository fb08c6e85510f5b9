use Rattle.std.proofs.Common.{◌≡◌, ℕ, [], ◌∷◌, ◌++◌, ◌∙◌, ap, take, drop, List}
use Rattle.std.proofs.lemmas.List.{append-nil}
use Rattle.quilt_types.specs.Bytes.{filled}
use Rattle.quilt_record.specs.Records.{kind_number}
use Rattle.quilt_record.specs.Listing.{number_of_kind, number_beside}
use Rattle.quilt_record.proofs.Names.{first_twelve, behind_twelve}
use Rattle.quilt_record.proofs.catalog_bytes.catalog_record.Goals as goal

pub returns : goal.returns
returns c n capacity =
    let beside = kind_number (number_of_kind c.args.e.now.kind) (number_beside c.args.e.now.kind) in
    let f = c.copy_from_slice.new.self in
    let p = c.copy_from_slice-2.new.self in
    let z : List ℕ = 0 ∷ 0 ∷ 0 ∷ 0 ∷ [] in
    let head = filled 12 c.args.e.now.name in
    let first : f ≡ head = c.copy_from_slice.ensures.after ∙ c.name_bytes.ensures in
    let rest : p ≡ number_of_kind c.args.e.now.kind ∷ beside ∷ 0 ∷ 0 ∷ [] =
    c.copy_from_slice-2.ensures.after ∙ ap (λ k. k ∷ c.byte_beside.result ∷ 0 ∷ 0 ∷ []) c.number_of.ensures
    ∙ ap (λ t. number_of_kind c.args.e.now.kind ∷ t ∷ 0 ∷ 0 ∷ []) c.byte_beside.ensures in
    let value : take 12 (f ++ z) ++ (p ++ drop 4 (drop 12 (f ++ z))) ≡ head ++ (number_of_kind c.args.e.now.kind ∷ beside ∷ 0 ∷ 0 ∷ []) =
    ap (λ l. l ++ (p ++ drop 4 (drop 12 (f ++ z)))) (first_twelve f z c.copy_from_slice.ensures.len)
    ∙ ap (λ l. f ++ (p ++ drop 4 l)) (behind_twelve f z c.copy_from_slice.ensures.len)
    ∙ ap (λ l. f ++ l) (append-nil p) ∙ ap (λ l. l ++ p) first ∙ ap (λ l. head ++ l) rest in
    let item = c.from.ensures in
    λ i. record { key = record { layer = 0; part = 0; code = 0; depth = 0; item = item i }; value = value i }
