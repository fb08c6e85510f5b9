-- The header over its bytes.
use Rattle.std.proofs.Common.{◌≡◌, ℕ, ◌+◌, List, [], ◌∷◌, ◌++◌, length, take, drop, ◌∙◌, ap, replicate, arith, ◌≤◌, ◌<◌, slice_index}
use Rattle.std.specs.Int.{to_be_bytes, w32}
use Rattle.std.proofs.lemmas.Nat.{from_be_bytes-to_be_bytes_4}
use Rattle.std.proofs.lemmas.List.{drop-replicate}
use Rattle.std.proofs.Math.Nat.{mod-eq_of_lt}
use Rattle.quilt_node.specs.declared.head.Head.{Head}
use Rattle.quilt_node.specs.Pages.{IsHeader, header_bytes, magic, word_at}
use Rattle.quilt_node.specs.Nodes.{HeadFits, read_head}

-- the first 24 bytes
abbrev pub head_start : Head → List ℕ
head_start h = magic ++ to_be_bytes w32 h.format ++ to_be_bytes w32 h.edition ++ (h.level ∷ h.height ∷ 0 ∷ 0 ∷ []) ++ to_be_bytes w32 h.root
    ++ to_be_bytes w32 h.records

pub filled_header : (h : Head) (start page : List ℕ) → start ≡ head_start h
    → page ≡ take 0 (replicate {A = ℕ} 4096 0) ++ (start ++ drop (0 + length start) (replicate {A = ℕ} 4096 0)) → page ≡ header_bytes h
unfolding header_bytes
filled_header h start page s e =
    e ∙ ap (λ l. l ++ drop (0 + length l) (replicate {A = ℕ} 4096 0)) s ∙ ap (λ l. head_start h ++ l) (drop-replicate 24 4096 0)

-- The numbers of a written header are read again.
pub read_written : (h : Head) → h.format ≤ 2 → HeadFits h → read_head (header_bytes h) ≡ h
unfolding header_bytes
read_written h low f =
    let format : slice_index (header_bytes h) 7 ≡ h.format = mod-eq_of_lt (let small : h.format < 256 = omega arith in small) in
    let edition : word_at (header_bytes h) 8 ≡ h.edition = from_be_bytes-to_be_bytes_4 h.edition f.edition in
    let root : word_at (header_bytes h) 16 ≡ h.root = from_be_bytes-to_be_bytes_4 h.root f.root in
    let records : word_at (header_bytes h) 20 ≡ h.records = from_be_bytes-to_be_bytes_4 h.records f.records in
    λ i. record { format = format i; edition = edition i; level = h.level; root = root i; height = h.height; records = records i }

-- only the header with these numbers is this page
pub same_head : (pages : ℕ) (bytes : List ℕ) (h : Head) → HeadFits h → IsHeader pages bytes h → read_head bytes ≡ h
same_head pages bytes h f p = ap read_head p.written ∙ read_written h p.numbers.format.1 f
