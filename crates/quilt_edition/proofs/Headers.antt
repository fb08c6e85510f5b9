-- What stands in the bytes of a header.
use Rattle.std.proofs.Common.{◌≡◌, ℕ, ◌<◌, ◌^◌, ◌%◌, arith, List, get_or, take, drop, refl, sym, ◌∙◌, ap}
use Rattle.std.specs.Int.{to_be_bytes, from_be_bytes, w32}
use Rattle.std.proofs.lemmas.Nat.{from_be_bytes-to_be_bytes_4}
use Rattle.quilt_node.specs.declared.head.Head.{Head}
use Rattle.quilt_node.specs.Pages.{header_bytes}

level_byte : (h : Head) → get_or (header_bytes h) 12 0 ≡ h.level
unfolding header_bytes
level_byte h = refl

height_byte : (h : Head) → get_or (header_bytes h) 13 0 ≡ h.height
unfolding header_bytes
height_byte h = refl

format_byte : (h : Head) → get_or (header_bytes h) 7 0 ≡ h.format % 256
unfolding header_bytes
format_byte h = refl

edition_bytes : (h : Head) → take 4 (drop 8 (header_bytes h)) ≡ to_be_bytes w32 h.edition
unfolding header_bytes
edition_bytes h = refl

pub same_level : (h k : Head) → header_bytes h ≡ header_bytes k → h.level ≡ k.level
same_level h k is = sym (level_byte h) ∙ ap (λ (l : List ℕ). get_or l 12 0) is ∙ level_byte k

pub same_height : (h k : Head) → header_bytes h ≡ header_bytes k → h.height ≡ k.height
same_height h k is = sym (height_byte h) ∙ ap (λ (l : List ℕ). get_or l 13 0) is ∙ height_byte k

pub same_format : (h k : Head) → h.format < 256 → k.format < 256 → header_bytes h ≡ header_bytes k → h.format ≡ k.format
same_format h k small_h small_k is =
    let bytes : h.format % 256 ≡ k.format % 256 = sym (format_byte h) ∙ ap (λ (l : List ℕ). get_or l 7 0) is ∙ format_byte k in
    omega arith

pub same_edition : (h k : Head) → h.edition < 2 ^ 32 → k.edition < 2 ^ 32 → header_bytes h ≡ header_bytes k → h.edition ≡ k.edition
same_edition h k fits_h fits_k is =
    let bytes : to_be_bytes w32 h.edition ≡ to_be_bytes w32 k.edition =
    sym (edition_bytes h) ∙ ap (λ (l : List ℕ). take 4 (drop 8 l)) is ∙ edition_bytes k in
    sym (from_be_bytes-to_be_bytes_4 h.edition fits_h) ∙ ap (from_be_bytes w32) bytes ∙ from_be_bytes-to_be_bytes_4 k.edition fits_k
