-- Hexadecimal digits, and the bytes that two of them spell.
use Rattle.std.proofs.Common.{◌≡◌, ℕ, ◌+◌, ◌-◌, ◌*◌, ◌%◌, ◌<◌, ◌≤◌, ◌&&◌, min, max, true, false, cond, List, ◌∷◌, Option, Some, None, unwrap_or, IfSome}
use Rattle.std.proofs.Common.{refl, ◌∙◌, ap, arith, ◌⊎◌, inl, inr, nat_le}
use Rattle.std.proofs.lemmas.Bool.{le-leb, leb-true, leb-false, cases_Bool, and_parts}
use Rattle.quilt_words.specs.Spelling.{hex_digit, row, cons_both}
use Rattle.quilt_words.proofs.Holding.{digit_low}
use Rattle.quilt_lang.specs.Spelled.{with_byte}

-- ---- how far a byte stands behind digits and letters

inside : (low high c : ℕ) → (nat_le low c && nat_le c high) ≡ true → (low ≤ c) × (c ≤ high)
inside low high c is = let both = and_parts (nat_le low c) (nat_le c high) is in (leb-true low c both.0, leb-true c high both.1)

outside : (low high c : ℕ) → (nat_le low c && nat_le c high) ≡ false → low ≤ c → high < c
outside low high c is le = let other : nat_le c high ≡ false = rw (le-leb low c le) at is in leb-false c high other

pub digit_is : (c d : ℕ) → c < 256 → d ≡ (c + 208) % 256 → d ≤ 9 → d ≡ unwrap_or (hex_digit c) 16
digit_is c d byte is few =
    let low : 48 ≤ c = omega (arith, byte, is, few) in
    let high : c ≤ 57 = omega (arith, byte, is, few) in
    rw (le-leb 48 c low, le-leb c 57 high) (omega (arith, byte, is, few))

upper_is : (c a u v : ℕ) → c < 256 → a ≡ (c + 159) % 256 → u ≡ (c + 191) % 256 → v ≡ min (min a u) 6 + 10
    → (97 ≤ c → 102 < c) → v ≡ unwrap_or (cond (nat_le 65 c && nat_le c 70) (Some (c - 55)) None) 16
upper_is c a u v byte first second is past = elim (cases_Bool (nat_le 65 c && nat_le c 70)) [
  | inl yes_ ↦ let within = inside 65 70 c yes_ in rw yes_ (omega (arith, byte, first, second, is, within.0, within.1))
  | inr not_ ↦ rw not_ (far (outside 65 70 c not_))
]
  where
    far : (65 ≤ c → 70 < c) → v ≡ 16
    far over = elim (cases_Bool (nat_le 97 c)) [
      | inl low ↦ let above : 102 < c = past (leb-true 97 c low) in omega (arith, byte, first, second, is, above)
      | inr below ↦ elim (cases_Bool (nat_le 65 c)) [
        | inl low ↦ let above : 70 < c = over (leb-true 65 c low) in let under : c < 97 = leb-false 97 c below in omega (arith, first, second, is, above, under)
        | inr under ↦ let less : c < 65 = leb-false 65 c under in omega (arith, first, second, is, less)
      ]
    ]

letter_is : (c a u v : ℕ) → c < 256 → a ≡ (c + 159) % 256 → u ≡ (c + 191) % 256 → v ≡ min (min a u) 6 + 10
    → v ≡ unwrap_or (cond (nat_le 97 c && nat_le c 102) (Some (c - 87)) (cond (nat_le 65 c && nat_le c 70) (Some (c - 55)) None)) 16
letter_is c a u v byte first second is = elim (cases_Bool (nat_le 97 c && nat_le c 102)) [
  | inl yes_ ↦ let within = inside 97 102 c yes_ in rw yes_ (omega (arith, byte, first, second, is, within.0, within.1))
  | inr not_ ↦ rw not_ (upper_is c a u v byte first second is (outside 97 102 c not_))
]

pub other_is : (c d a u v : ℕ) → c < 256 → d ≡ (c + 208) % 256 → 9 < d → a ≡ (c + 159) % 256 → u ≡ (c + 191) % 256 → v ≡ min (min a u) 6 + 10
    → v ≡ unwrap_or (hex_digit c) 16
other_is c d a u v byte digit many first second is = elim (cases_Bool (nat_le 48 c && nat_le c 57)) [
  | inl yes_ ↦ let within = inside 48 57 c yes_ in absurd (omega (arith, byte, digit, many, within.0, within.1))
  | inr not_ ↦ rw not_ (letter_is c a u v byte first second is)
]

-- ---- two digits

some_digit : (o : Option ℕ) (v : ℕ) → v ≡ unwrap_or o 16 → v ≤ 15 → o ≡ Some v
some_digit None v is low = absurd (omega (arith, is, low))
some_digit (Some d) v is low = let same : d ≡ v = omega (arith, is) in ap Some same

no_digit : (o : Option ℕ) (v : ℕ) → v ≡ unwrap_or o 16 → IfSome o (λ d. d < 16) → 15 < v → o ≡ None
no_digit None v is low high = refl
no_digit (Some d) v is low high = absurd (omega (arith, is, low, high))

both_there : (h l : ℕ) (r : Option (List ℕ)) → cons_both (Some h) (Some l) r ≡ with_byte (Some (16 * h + l)) r
both_there h l None = refl
both_there h l (Some rest) = refl

one_missing : (a b : Option ℕ) (r : Option (List ℕ)) → (a ≡ None) ⊎ (b ≡ None) → cons_both a b r ≡ with_byte None r
one_missing None b r missing = refl
one_missing (Some a) None r missing = refl
one_missing (Some a) (Some b) r (inl bad) = cc
one_missing (Some a) (Some b) r (inr bad) = cc

-- two digits before others
pub two_digits : (c d h l : ℕ) (rest : List ℕ) → h ≡ unwrap_or (hex_digit c) 16 → l ≡ unwrap_or (hex_digit d) 16 → max h l ≤ 15 →
    row (c ∷ d ∷ rest) ≡ with_byte (Some (16 * h + l)) (row rest)
two_digits c d h l rest first second low =
    let high : hex_digit c ≡ Some h = some_digit (hex_digit c) h first (omega (arith, low)) in
    let next : hex_digit d ≡ Some l = some_digit (hex_digit d) l second (omega (arith, low)) in
    ap (λ (a : Option ℕ). cons_both a (hex_digit d) (row rest)) high ∙ ap (λ (b : Option ℕ). cons_both (Some h) b (row rest)) next
    ∙ both_there h l (row rest)

-- and two bytes of which one is no digit
pub no_digits : (c d h l : ℕ) (rest : List ℕ) → h ≡ unwrap_or (hex_digit c) 16 → l ≡ unwrap_or (hex_digit d) 16 → 15 < max h l →
    row (c ∷ d ∷ rest) ≡ with_byte None (row rest)
no_digits c d h l rest first second high = elim (cases_Bool (nat_le h 15)) [
  | inl low ↦
      let small : h ≤ 15 = leb-true h 15 low in
      one_missing (hex_digit c) (hex_digit d) (row rest) (inr (no_digit (hex_digit d) l second (digit_low d) (omega (arith, small, high))))
  | inr big ↦
      let large : 15 < h = omega (arith, leb-false h 15 big) in
      one_missing (hex_digit c) (hex_digit d) (row rest) (inl (no_digit (hex_digit c) h first (digit_low c) large))
]
