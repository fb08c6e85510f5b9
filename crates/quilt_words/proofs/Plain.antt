-- Bytes that a line may have, told by how far they stand behind the space.
use Rattle.std.proofs.Common.{◌≡◌, ℕ, ◌+◌, ◌-◌, ◌%◌, ◌<◌, ◌≤◌, nat_le, max, Bool, true, false, ◌&&◌, List, [], ◌∷◌, length, take, drop, get_or, refl, sym}
use Rattle.std.proofs.Common.{◌∙◌, ap, arith, inl, inr, take-take}
use Rattle.std.specs.List.{list_all}
use Rattle.std.proofs.Math.Seq.{take-add}
use Rattle.std.proofs.lemmas.Bool.{le-leb, lt-leb, leb-true, leb-false, cases_Bool, and_parts, and_from}
use Rattle.std.proofs.lemmas.List.{take-append-drop}
use Rattle.std.proofs.lemmas.List.Folds.{list_all_more, list_all-append}
use Rattle.quilt_words.specs.Items.{is_plain}
use Rattle.quilt_words.proofs.Slices.{behind}

pub behind_plain : (c r : ℕ) → c < 256 → r ≡ (c + 224) % 256 → nat_le r 94 ≡ is_plain c
behind_plain c r byte is = elim (cases_Bool (nat_le 32 c)) [
  | inl low ↦ elim (cases_Bool (nat_le c 126)) [
    | inl high ↦ rw (low, high) (le-leb r 94 (omega (arith, byte, is, leb-true 32 c low, leb-true c 126 high)))
    | inr over ↦ rw (low, over) (lt-leb r 94 (omega (arith, byte, is, leb-true 32 c low, leb-false c 126 over)))
  ]
  | inr under ↦ rw under (lt-leb r 94 (omega (arith, byte, is, leb-false 32 c under)))
]

-- the greater of two is few where both are
both_few : (m v : ℕ) → nat_le (max m v) 94 ≡ (nat_le m 94 && nat_le v 94)
both_few m v = elim (cases_Bool (nat_le m 94)) [
  | inl first ↦ elim (cases_Bool (nat_le v 94)) [
    | inl second ↦ rw (first, second) (le-leb (max m v) 94 (omega (arith, leb-true m 94 first, leb-true v 94 second)))
    | inr over ↦ rw (first, over) (lt-leb (max m v) 94 (omega (arith, leb-false v 94 over)))
  ]
  | inr over ↦ rw over (lt-leb (max m v) 94 (omega (arith, leb-false m 94 over)))
]

-- one byte more
pub plain_more : (line : List ℕ) (i c m v most : ℕ) → i < length line → nat_le m 94 ≡ list_all is_plain (take i line) → c ≡ get_or line i 0
    → nat_le v 94 ≡ is_plain c → most ≡ max m v → nat_le most 94 ≡ list_all is_plain (take (i + 1) line)
plain_more line i c m v most within so is one next =
    ap (λ (x : ℕ). nat_le x 94) next ∙ both_few m v ∙ ap (λ b. b && nat_le v 94) so
    ∙ ap (λ b. list_all is_plain (take i line) && b) (one ∙ ap is_plain is) ∙ sym (list_all_more is_plain line i 0 within)

-- ---- bytes that are tested some at a time

pub none_plain : (line : List ℕ) → list_all is_plain (take 0 line) ≡ true
none_plain [] = refl
none_plain (c ∷ cs) = refl

front_plain : (line : List ℕ) (m k : ℕ) → m ≤ k → list_all is_plain (take k line) ≡ true → list_all is_plain (take m line) ≡ true
front_plain line m k le so =
    let front : List ℕ = take k line in
    let both : (list_all is_plain (take m front) && list_all is_plain (drop m front)) ≡ true =
    sym (list_all-append is_plain (take m front) (drop m front)) ∙ ap (list_all is_plain) (take-append-drop m front) ∙ so in
    ap (list_all is_plain) (sym (take-take m k line le)) ∙ (and_parts _ _ both).0

-- where those at the front may stand in a line, the others decide, and some of the front beside them
decide : (line : List ℕ) (m k : ℕ) → m ≤ k → list_all is_plain (take k line) ≡ true → list_all is_plain (drop m line) ≡ list_all is_plain line
decide line m k le so =
    ap (λ (b : Bool). b && list_all is_plain (drop m line)) (sym (front_plain line m k le so))
    ∙ sym (list_all-append is_plain (take m line) (drop m line)) ∙ ap (list_all is_plain) (take-append-drop m line)

pub last_decide : (line : List ℕ) (m k : ℕ) → m ≤ k → list_all is_plain (take k line) ≡ true
    → list_all is_plain (take (length line - m) (drop m line)) ≡ list_all is_plain line
last_decide line m k le so = ap (list_all is_plain) (behind m line) ∙ decide line m k le so

-- eight more
pub eight_more : (line : List ℕ) (k n : ℕ) → n ≡ 8 → list_all is_plain (take k line) ≡ true → list_all is_plain (take n (drop k line)) ≡ true
    → list_all is_plain (take (k + 8) line) ≡ true
eight_more line k n eight so next =
    ap (λ (m : ℕ). list_all is_plain (take (k + m) line)) (sym eight) ∙ ap (list_all is_plain) (take-add k n line)
    ∙ list_all-append is_plain (take k line) (take n (drop k line)) ∙ and_from _ _ so next

pub eight_fail : (line : List ℕ) (k n : ℕ) → list_all is_plain (take k line) ≡ true → list_all is_plain (take n (drop k line)) ≡ false
    → list_all is_plain line ≡ false
eight_fail line k n so next =
    let rest : List ℕ = drop k line in
    sym (decide line k k (omega arith) so) ∙ ap (list_all is_plain) (sym (take-append-drop n rest))
    ∙ list_all-append is_plain (take n rest) (drop n rest) ∙ ap (λ (b : Bool). b && list_all is_plain (drop n rest)) next
