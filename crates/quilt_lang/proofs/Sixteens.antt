-- Digits read sixteen at a time, as the lanes of a vector.
use Rattle.std.proofs.Common.{◌≡◌, ℕ, zero, suc, ◌+◌, ◌-◌, ◌*◌, ◌/◌, ◌%◌, ◌^◌, ◌<◌, ◌≤◌, min, max, Bool, true, false, cond, eqb, ltb, List, [], ◌∷◌, ◌++◌, map, length, drop, replicate}
use Rattle.std.proofs.Common.{Option, Some, None, option_map, unwrap_or, IfSome, refl, sym, ◌∙◌, ap, arith, append_assoc, w8, Fits}
use Rattle.std.proofs.Common.{inl, inr, nat_le}
use Rattle.std.proofs.lemmas.Bool.{ne_eqb, ltb-true, ltb-false, leb-true, leb-false, cases_Bool}
use Rattle.std.proofs.lemmas.Grind.{flat_map-append}
use Rattle.std.proofs.lemmas.Simd.{chunk-drop, length-chunk}
use lib.Lanes.{zip2, sel_l, mask_l, top, chunk, number_l, digits_l, Each1}
use Rattle.quilt_words.specs.Items.{colour_bytes}
use Rattle.quilt_words.specs.Spelling.{hex_digit, row, cons_both}
use Rattle.quilt_words.proofs.Holding.{digit_low}
use Rattle.quilt_lang.specs.Spelled.{wide_pairs, IsWideUpTo}
use Rattle.quilt_lang.proofs.Digits.{digit_is, other_is}
use Rattle.quilt_lang.proofs.Joins.{before}

-- ---- a row of two parts

cons_before : (a b : Option ℕ) (r s : Option (List ℕ)) → cons_both a b (before r s) ≡ before (cons_both a b r) s
cons_before None b r s = refl
cons_before (Some h) None r s = refl
cons_before (Some h) (Some l) None s = refl
cons_before (Some h) (Some l) (Some x) None = refl
cons_before (Some h) (Some l) (Some x) (Some y) = refl

none_before : (r : Option (List ℕ)) → r ≡ before (Some []) r
none_before None = refl
none_before (Some x) = refl

pub row_parts : (xs ys : List ℕ) → length xs % 2 ≡ 0 → row (xs ++ ys) ≡ before (row xs) (row ys)
row_parts [] ys even = none_before (row ys)
row_parts (c ∷ []) ys even = absurd (omega (arith, even))
row_parts (c ∷ d ∷ xs) ys even =
    ap (cons_both (hex_digit c) (hex_digit d)) (row_parts xs ys (omega (arith, even))) ∙ cons_before (hex_digit c) (hex_digit d) (row xs) (row ys)

wide_before : (a r : Option (List ℕ)) (part got : List ℕ) → Some part ≡ option_map (colour_bytes 1) a →
    option_map (λ x. got ++ x) (option_map (colour_bytes 1) (before a r)) ≡ option_map (λ x. (got ++ part) ++ x) (option_map (colour_bytes 1) r)
wide_before None r part got is = cc
wide_before (Some x) None part got is = refl
wide_before (Some x) (Some y) part got is =
    let same : part ≡ colour_bytes 1 x = ap (λ o. unwrap_or o []) is in
    ap (λ (l : List ℕ). Some (got ++ l)) (flat_map-append (λ c. 0 ∷ c ∷ []) x y) ∙ ap Some (sym (append_assoc got (colour_bytes 1 x) (colour_bytes 1 y)))
    ∙ ap (λ (l : List ℕ). Some ((got ++ l) ++ colour_bytes 1 y)) (sym same)

wide_missing : (a r : Option (List ℕ)) (got : List ℕ) → None ≡ option_map (colour_bytes 1) a →
    option_map (λ x. got ++ x) (option_map (colour_bytes 1) (before a r)) ≡ None
wide_missing None r got is = refl
wide_missing (Some x) r got is = cc

cut_at : (line : List ℕ) (i : ℕ) (got : List ℕ) → i + 16 ≤ length line → IsWideUpTo line i got → option_map (colour_bytes 1) (row line)
    ≡ option_map (λ x. got ++ x) (option_map (colour_bytes 1) (before (row (chunk i 16 line)) (row (drop (i + 16) line))))
cut_at line i got room so =
    so ∙ ap (λ l. option_map (λ x. got ++ x) (option_map (colour_bytes 1) (row l))) (chunk-drop i 16 line)
    ∙ ap (λ r. option_map (λ x. got ++ x) (option_map (colour_bytes 1) r)) (row_parts (chunk i 16 line) (drop (i + 16) line) (omega (arith, length-chunk i 16 line room)))

-- sixteen digits more
pub sixteen_more : (line : List ℕ) (i : ℕ) (part got : List ℕ) → i + 16 ≤ length line → IsWideUpTo line i got
    → Some part ≡ option_map (colour_bytes 1) (row (chunk i 16 line)) → IsWideUpTo line (i + 16) (got ++ part)
sixteen_more line i part got room so is = cut_at line i got room so ∙ wide_before (row (chunk i 16 line)) (row (drop (i + 16) line)) part got is

pub sixteen_fail : (line : List ℕ) (i : ℕ) (got : List ℕ) → i + 16 ≤ length line → IsWideUpTo line i got
    → None ≡ option_map (colour_bytes 1) (row (chunk i 16 line)) → option_map (colour_bytes 1) (row line) ≡ None
sixteen_fail line i got room so is = cut_at line i got room so ∙ wide_missing (row (chunk i 16 line)) (row (drop (i + 16) line)) got is

-- ---- sixteen digits, by their values

-- the value of a digit, and 16 for each other byte
abbrev pub value : ℕ → ℕ
value c = unwrap_or (hex_digit c) 16

both_flags : (s t : Bool) (rest : ℕ) → cond s 1 0 + 2 * (cond t 1 0 + 2 * rest) ≡ 0 → (s ≡ false) × (t ≡ false) × (rest ≡ 0)
both_flags true t rest z = absurd (omega (arith, z))
both_flags false true rest z = absurd (omega (arith, z))
both_flags false false rest z = (refl, refl, omega (arith, z))

two_there : (a b : Option ℕ) (r : Option (List ℕ)) (part : List ℕ) → eqb (unwrap_or a 16) 16 ≡ false → eqb (unwrap_or b 16) 16 ≡ false
    → Some part ≡ option_map (colour_bytes 1) r
    → Some (0 ∷ (16 * unwrap_or a 16 + unwrap_or b 16) ∷ part) ≡ option_map (colour_bytes 1) (cons_both a b r)
two_there None b r part first second is = cc
two_there (Some h) None r part first second is = cc
two_there (Some h) (Some l) None part first second is = cc
two_there (Some h) (Some l) (Some x) part first second is = ap (option_map (λ (y : List ℕ). 0 ∷ (16 * h + l) ∷ y)) is

pub all_there : (cs : List ℕ) → length cs % 2 ≡ 0 → mask_l (map (λ v. eqb v 16) (map value cs)) ≡ 0
    → Some (wide_pairs (map value cs)) ≡ option_map (colour_bytes 1) (row cs)
all_there [] even none = refl
all_there (c ∷ []) even none = absurd (omega (arith, even))
all_there (c ∷ d ∷ cs) even none =
    let flags = both_flags (eqb (value c) 16) (eqb (value d) 16) (mask_l (map (λ v. eqb v 16) (map value cs))) none in
    two_there (hex_digit c) (hex_digit d) (row cs) (wide_pairs (map value cs)) flags.0 flags.1 (all_there cs (omega (arith, even)) flags.2)

one_bad : (a b : Option ℕ) (r : Option (List ℕ)) (rest : ℕ) → IfSome a (λ d. d < 16) → IfSome b (λ d. d < 16)
    → (cond (eqb (unwrap_or a 16) 16) 1 0 + 2 * (cond (eqb (unwrap_or b 16) 16) 1 0 + 2 * rest) ≡ 0 → ⊥) → ((rest ≡ 0 → ⊥) → r ≡ None)
    → cons_both a b r ≡ None
one_bad None b r rest first second bad others = refl
one_bad (Some h) None r rest first second bad others = refl
one_bad (Some h) (Some l) r rest first second bad others =
    ap (cons_both (Some h) (Some l))
    (others (λ z. bad (rw (ne_eqb h 16 (λ e. omega (arith, e, first)), ne_eqb l 16 (λ e. omega (arith, e, second))) (omega (arith, z)))))

pub one_missing : (cs : List ℕ) → (mask_l (map (λ v. eqb v 16) (map value cs)) ≡ 0 → ⊥) → row cs ≡ None
one_missing [] bad = absurd (bad refl)
one_missing (c ∷ []) bad = refl
one_missing (c ∷ d ∷ cs) bad =
    one_bad (hex_digit c) (hex_digit d) (row cs) (mask_l (map (λ v. eqb v 16) (map value cs))) (digit_low c) (digit_low d) bad (one_missing cs)

one_flag : (t : Bool) (rest : ℕ) → cond t 1 0 + 2 * rest ≡ 0 → (t ≡ false) × (rest ≡ 0)
one_flag true rest z = absurd (omega (arith, z))
one_flag false rest z = (refl, omega (arith, z))

below : (o : Option ℕ) → IfSome o (λ d. d < 16) → eqb (unwrap_or o 16) 16 ≡ false → unwrap_or o 16 < 16
below None low flag = cc
below (Some d) low flag = low

pub few_values : (cs : List ℕ) → mask_l (map (λ v. eqb v 16) (map value cs)) ≡ 0 → Each1 (λ v. v < 16) (map value cs)
few_values [] none = tt
few_values (c ∷ cs) none =
    let flags = one_flag (eqb (value c) 16) (mask_l (map (λ v. eqb v 16) (map value cs))) none in
    (below (hex_digit c) (digit_low c) flags.0, few_values cs flags.1)

-- ---- the value of one lane

pub lane_value : (c : ℕ) → c < 256 →
    min ((max ((c + 198) % 256) 6 + 10) % 256) ((min (min ((c + 159) % 256) ((c + 191) % 256)) 6 + 10) % 256) ≡ value c
lane_value c byte =
    let letter : ℕ = min (min ((c + 159) % 256) ((c + 191) % 256)) 6 + 10 in
    elim (cases_Bool (nat_le ((c + 208) % 256) 9)) [
      | inl few ↦
          let low : (c + 208) % 256 ≤ 9 = leb-true ((c + 208) % 256) 9 few in
          let is : min ((max ((c + 198) % 256) 6 + 10) % 256) ((min (min ((c + 159) % 256) ((c + 191) % 256)) 6 + 10) % 256) ≡ (c + 208) % 256 =
          omega (arith, byte, low) in
          is ∙ digit_is c ((c + 208) % 256) byte refl low
      | inr many ↦
          let high : 9 < (c + 208) % 256 = leb-false ((c + 208) % 256) 9 many in
          let is : min ((max ((c + 198) % 256) 6 + 10) % 256) ((min (min ((c + 159) % 256) ((c + 191) % 256)) 6 + 10) % 256) ≡ letter =
          omega (arith, byte, high) in
          is ∙ other_is c ((c + 208) % 256) ((c + 159) % 256) ((c + 191) % 256) letter byte refl high refl refl refl
    ]

abbrev pub lesser : ℕ → ℕ → ℕ
lesser a b = cond (top 7 (cond (ltb a b) 255 0)) a b

lesser_is : (a b : ℕ) → cond (top 7 (cond (ltb a b) 255 0)) a b ≡ min a b
lesser_is a b = go (ltb a b) refl
  where
    go : (t : Bool) → ltb a b ≡ t → cond (top 7 (cond t 255 0)) a b ≡ min a b
    go true e = omega (arith, ltb-true a b e)
    go false e = omega (arith, ltb-false a b e)

greater_is : (a b : ℕ) → cond (top 7 (cond (ltb a b) 255 0)) b a ≡ max a b
greater_is a b = go (ltb a b) refl
  where
    go : (t : Bool) → ltb a b ≡ t → cond (top 7 (cond t 255 0)) b a ≡ max a b
    go true e = omega (arith, ltb-true a b e)
    go false e = omega (arith, ltb-false a b e)

-- the lesser of two vectors, and the greater
abbrev pub least : List ℕ → List ℕ → List ℕ
least xs ys = sel_l (map (top 7) (zip2 (λ a b. cond (ltb a b) 255 0) xs ys)) xs ys

abbrev pub greatest : List ℕ → List ℕ → List ℕ
greatest xs ys = sel_l (map (top 7) (zip2 (λ a b. cond (ltb a b) 255 0) xs ys)) ys xs

abbrev pub sums : List ℕ → List ℕ → List ℕ
sums = zip2 (λ a b. (a + b) % 2 ^ 8)

abbrev pub differences : List ℕ → List ℕ → List ℕ
differences = zip2 (λ a b. (a + (2 ^ 8 - b)) % 2 ^ 8)

abbrev pub lane_values : ℕ → List ℕ → List ℕ
lane_values n cs =
    least (sums (greatest (sums cs (replicate n 198)) (replicate n 6)) (replicate n 10))
    (sums (least (least (differences cs (replicate n 97)) (differences cs (replicate n 65))) (replicate n 6)) (replicate n 10))

pub values_are : (cs : List ℕ) (n : ℕ) → length cs ≡ n → Each1 (Fits w8) cs → lane_values n cs ≡ map value cs
values_are [] n long fits = refl
values_are (c ∷ cs) zero long fits = absurd (omega (arith, long))
values_are (c ∷ cs) (suc n) long fits =
    let byte : c < 256 = fits.0.fits in
    let high : ℕ = (c + 198) % 256 in
    let first : ℕ = (c + 159) % 256 in
    let second : ℕ = (c + 191) % 256 in
    let one : lesser ((cond (top 7 (cond (ltb high 6) 255 0)) 6 high + 10) % 256) ((lesser (lesser first second) 6 + 10) % 256) ≡ value c =
    lesser_is ((cond (top 7 (cond (ltb high 6) 255 0)) 6 high + 10) % 256) ((lesser (lesser first second) 6 + 10) % 256)
    ∙ (λ i. min ((greater_is high 6 i + 10) % 256) ((lesser_is (lesser_is first second i) 6 i + 10) % 256))
    ∙ lane_value c byte in
    λ i. one i ∷ values_are cs n (omega (arith, long)) fits.1 i

-- ---- two values as a number with the second in its high byte

abbrev pub twos : List ℕ → List ℕ
twos (a ∷ b ∷ vs) = (a + 256 * b) ∷ twos vs
twos vs = []

pub twos_are : (vs : List ℕ) (m : ℕ) → length vs ≡ 2 * m → Each1 (λ v. v < 16) vs → digits_l 65536 m (number_l 256 vs) ≡ twos vs
twos_are [] zero long few = refl
twos_are [] (suc m) long few = absurd (omega (arith, long))
twos_are (a ∷ []) m long few = absurd (omega (arith, long))
twos_are (a ∷ b ∷ vs) zero long few = absurd (omega (arith, long))
twos_are (a ∷ b ∷ vs) (suc m) long few =
    let rest : ℕ = number_l 256 vs in
    let first : (a + 256 * (b + 256 * rest)) % 65536 ≡ a + 256 * b = omega (arith, few.0, few.1.0) in
    let on : (a + 256 * (b + 256 * rest)) / 65536 ≡ rest = omega (arith, few.0, few.1.0) in
    (λ i. first i ∷ digits_l 65536 m (on i)) ∙ ap (λ l. (a + 256 * b) ∷ l) (twos_are vs m (omega (arith, long)) few.1.1)

-- the first value of a number of two goes to the high half of its high byte, and the second to the low one
abbrev pub lane : ℕ → ℕ
lane x = (x * 2 ^ 12 % 2 ^ 16 + x / 2 ^ 8 * 2 ^ 8 % 2 ^ 16) % 2 ^ 16

pub bytes_of : (vs : List ℕ) (m k : ℕ) → length vs ≡ 2 * m → k ≡ 2 * m → Each1 (λ v. v < 16) vs → digits_l 256 k (number_l 65536 (map lane (twos vs))) ≡ wide_pairs vs
bytes_of [] zero zero long double few = refl
bytes_of [] (suc m) k long double few = absurd (omega (arith, long))
bytes_of [] zero (suc k) long double few = absurd (omega (arith, double))
bytes_of (a ∷ []) m k long double few = absurd (omega (arith, long))
bytes_of (a ∷ b ∷ vs) m zero long double few = absurd (omega (arith, long, double))
bytes_of (a ∷ b ∷ vs) m (suc zero) long double few = absurd (omega (arith, double))
bytes_of (a ∷ b ∷ vs) zero (suc (suc k)) long double few = absurd (omega (arith, long))
bytes_of (a ∷ b ∷ vs) (suc m) (suc (suc k)) long double few =
    let rest : ℕ = number_l 65536 (map lane (twos vs)) in
    let is : lane (a + 256 * b) ≡ 256 * (16 * a + b) = omega (arith, few.0, few.1.0) in
    let first : (lane (a + 256 * b) + 65536 * rest) % 256 ≡ 0 = rw is (omega (arith, few.0, few.1.0)) in
    let second : (lane (a + 256 * b) + 65536 * rest) / 256 % 256 ≡ 16 * a + b = rw is (omega (arith, few.0, few.1.0)) in
    let on : (lane (a + 256 * b) + 65536 * rest) / 256 / 256 ≡ rest = rw is (omega (arith, few.0, few.1.0)) in
    (λ i. first i ∷ second i ∷ digits_l 256 k (on i)) ∙ ap (λ l. 0 ∷ (16 * a + b) ∷ l) (bytes_of vs m k (omega (arith, long)) (omega (arith, double)) few.1.1)

lanes_are : (xs : List ℕ) (m : ℕ) → length xs ≡ m →
    zip2 (λ a b. (a + b) % 2 ^ 16) (zip2 (λ a b. a * 2 ^ b % 2 ^ 16) xs (replicate m 12))
    (zip2 (λ a b. a * 2 ^ b % 2 ^ 16) (zip2 (λ a b. a / 2 ^ b) xs (replicate m 8)) (replicate m 8)) ≡ map lane xs
lanes_are [] m long = refl
lanes_are (x ∷ xs) zero long = absurd (omega (arith, long))
lanes_are (x ∷ xs) (suc m) long = ap (λ l. lane x ∷ l) (lanes_are xs m (omega (arith, long)))

twos_long : (vs : List ℕ) (m : ℕ) → length vs ≡ 2 * m → length (twos vs) ≡ m
twos_long [] zero long = refl
twos_long [] (suc m) long = absurd (omega (arith, long))
twos_long (a ∷ []) m long = absurd (omega (arith, long))
twos_long (a ∷ b ∷ vs) zero long = absurd (omega (arith, long))
twos_long (a ∷ b ∷ vs) (suc m) long = ap suc (twos_long vs m (omega (arith, long)))

abbrev paired_lanes : List ℕ → List ℕ
paired_lanes xs =
    digits_l 256 16
    (number_l 65536
    (zip2 (λ a b. (a + b) % 2 ^ 16) (zip2 (λ a b. a * 2 ^ b % 2 ^ 16) xs (replicate 8 12))
    (zip2 (λ a b. a * 2 ^ b % 2 ^ 16) (zip2 (λ a b. a / 2 ^ b) xs (replicate 8 8)) (replicate 8 8))))

pub lanes_of : (vs : List ℕ) → length vs ≡ 16 → Each1 (λ v. v < 16) vs → paired_lanes (digits_l 65536 8 (number_l 256 vs)) ≡ wide_pairs vs
lanes_of vs long few =
    let half : length vs ≡ 2 * 8 = omega (arith, long) in
    ap paired_lanes (twos_are vs 8 half few)
    ∙ ap (λ l. digits_l 256 16 (number_l 65536 l)) (lanes_are (twos vs) 8 (twos_long vs 8 half))
    ∙ bytes_of vs 8 16 half (omega arith) few
