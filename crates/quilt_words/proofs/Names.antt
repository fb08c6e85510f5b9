-- A name is ASCII, and so it is text.
use Rattle.std.proofs.Common.{◌≡◌, inl, inr, ℕ, ◌<◌, Bool, true, false, ◌&&◌, List, [], ◌∷◌, length, None, refl, arith}
use Rattle.std.proofs.Common.{nat_le}
use Rattle.std.specs.List.{list_all}
use Rattle.std.specs.Str.{IsAscii, IsUtf8}
use Rattle.std.proofs.lemmas.Str.{IsUtf8-from_ascii}
use Rattle.std.proofs.lemmas.Str.Ascii.{IsAscii-nil, IsAscii-cons}
use Rattle.std.proofs.lemmas.Bool.Decides.{nat_tests}
use Rattle.std.proofs.lemmas.Bool.{cases_Bool}
use Rattle.quilt_types.specs.Layers.{is_name, is_name_byte, is_letter}
use Rattle.quilt_words.specs.Spelling.{name}

and_first : (a b : Bool) → (a && b) ≡ true → a ≡ true
and_first true b is = refl
and_first false b is = is

and_second : (a b : Bool) → (a && b) ≡ true → b ≡ true
and_second true b is = is
and_second false b is = cc

letter_ascii : (c : ℕ) → is_letter c ≡ true → c < 128
letter_ascii c is = grind (arith, nat_tests)

byte_ascii : (c : ℕ) → is_name_byte c ≡ true → c < 128
byte_ascii c is = grind (arith, nat_tests)

bytes_ascii : (cs : List ℕ) → list_all is_name_byte cs ≡ true → IsAscii cs
bytes_ascii [] is = IsAscii-nil
bytes_ascii (c ∷ cs) is =
    IsAscii-cons c cs (byte_ascii c (and_first (is_name_byte c) (list_all is_name_byte cs) is))
    (bytes_ascii cs (and_second (is_name_byte c) (list_all is_name_byte cs) is))

name_ascii : (cs : List ℕ) → is_name cs ≡ true → IsAscii cs
name_ascii [] is = cc
name_ascii (c ∷ cs) is =
    let both : (is_letter c && list_all is_name_byte cs) ≡ true = and_first (is_letter c && list_all is_name_byte cs) (nat_le (length cs) 11) is in
    IsAscii-cons c cs (letter_ascii c (and_first (is_letter c) (list_all is_name_byte cs) both))
    (bytes_ascii cs (and_second (is_letter c) (list_all is_name_byte cs) both))

-- what is no text is no name
pub unnamed : (cs : List ℕ) → (IsUtf8 cs → ⊥) → None ≡ name cs
unfolding name
unnamed cs none = elim (cases_Bool (is_name cs)) [
  | inl is ↦ absurd (none (IsUtf8-from_ascii cs (name_ascii cs is)))
  | inr not_ ↦ rw not_ refl
]
