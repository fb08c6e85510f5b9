-- What further lines spell where they are well formed: as many rows, points or rings as are asked for, each within its range.
use Rattle.std.proofs.Common.{◌≡◌, ◌≢◌, ◌⊎◌, inl, inr, subst, Result, Ok, Err, IfOk, ℕ, zero, suc, ◌+◌, ◌-◌, ◌*◌, ◌<◌, ◌≤◌, ◌==◌, ◌&&◌, ◌||◌, not, nat_le}
use Rattle.std.proofs.Common.{nat_lt, Bool, true, false, List, [], ◌∷◌, ◌++◌, length, flat_map, All, Option, Some, None, IfSome, option_map, option_and_then}
use Rattle.std.proofs.Common.{unwrap_or, cond, codes, refl, sym, ◌∙◌, ap, arith, length-append}
use Rattle.std.specs.List.{list_all}
use Rattle.std.specs.Str.{bytes_eq}
use Rattle.std.proofs.lemmas.Bool.{leb-true, ltb-false, eqb-true, eqb-false, cases_Bool}
use Rattle.std.proofs.Math.Nat.{suc-mul}
use Rattle.std.proofs.lemmas.List.Elements.{All-nil, All-cons, All-head, All-tail}
use Rattle.quilt_types.specs.declared.plane.Point.{Point}
use Rattle.quilt_types.specs.declared.plane.Corner.{Corner}
use Rattle.quilt_types.specs.Plane.{side}
use Rattle.quilt_words.specs.declared.item.Item.{Item}
use Rattle.quilt_words.specs.declared.item.Item.TheVariants.{Long}
use Rattle.quilt_words.specs.declared.command.Command.{Command}
use Rattle.quilt_words.specs.declared.parse_err.ParseErr.{ParseErr}
use Rattle.quilt_words.specs.Fitting.{IsWithin, AreColours, IsRows, ArePoints, AreRings, IsRing, IsPointOf16, IsCornerOf16}
use Rattle.quilt_words.specs.Table.{FurtherFits}
use Rattle.quilt_words.specs.Items.{Group, held, held_as, asked, asked_by, listed_by, is_long, is_plain, words_of, begins_with, rows_of, rows_joined}
use Rattle.quilt_words.specs.Items.{colour_bytes, points_of, points_joined, point_of, point, rings_of, rings_joined, ring_of, corners_of, corner_of}
use Rattle.quilt_words.specs.Spelling.{number, row, hex_digit, cons_both, is_spelled, value_of}
use Rattle.quilt_words.specs.Forms.{form, Spelled}
use Rattle.quilt_words.specs.Made.{further_of}
use Rattle.quilt_words.specs.Parsing.{IsParsedAs}

both_right : (a b : Bool) → (a && b) ≡ true → b ≡ true
both_right true b is = is
both_right false b is = cc

both_left : (a b : Bool) → (a && b) ≡ true → a ≡ true
both_left true b is = refl
both_left false b is = is

-- a number within its range
pub number_within : (low high : ℕ) (cs : List ℕ) (n : ℕ) → number low high cs ≡ Some n → IsWithin low high n
unfolding number
number_within low high cs n is = elim (cases_Bool (is_spelled cs && nat_le low (value_of cs) && nat_le (value_of cs) high)) [
  | inl holds ↦
      let e : Some (value_of cs) ≡ Some n = rw holds at is in
      let same : value_of cs ≡ n = cc in
      let first = both_left (is_spelled cs && nat_le low (value_of cs)) (nat_le (value_of cs) high) holds in
      let least : low ≤ value_of cs = leb-true low (value_of cs) (both_right (is_spelled cs) (nat_le low (value_of cs)) first) in
      let most : value_of cs ≤ high = leb-true (value_of cs) high (both_right (is_spelled cs && nat_le low (value_of cs)) (nat_le (value_of cs) high) holds) in
      record { least = omega (arith, same, least); most = omega (arith, same, most) }
  | inr not_ ↦ let e : None ≡ Some n = rw not_ at is in absurd (cc)
]

pub number_some : (low high : ℕ) (cs : List ℕ) (n : ℕ) → number low high cs ≡ Some n → n ≤ high
number_some low high cs n is = (number_within low high cs n is).most

most_of : (low high : ℕ) (cs : List ℕ) (r : Option ℕ) → number low high cs ≡ r → unwrap_or r 0 ≤ high
most_of low high cs None is = omega arith
most_of low high cs (Some n) is = number_some low high cs n is

either_most : (b : Bool) (k m : ℕ) → k ≤ m → cond b k 0 ≤ m
either_most true k m le = le
either_most false k m le = omega arith

pub listed_most : (ws : List (List ℕ)) → listed_by ws ≤ 100000
listed_most [] = omega arith
listed_most (w ∷ []) = omega arith
listed_most (w ∷ p ∷ []) = omega arith
listed_most (w ∷ p ∷ k ∷ []) = either_most (bytes_eq w (codes "scatter")) (unwrap_or (number 1 100000 k) 0) 100000 (most_of 1 100000 k (number 1 100000 k) refl)
listed_most (w ∷ p ∷ c ∷ k ∷ []) =
    either_most (bytes_eq w (codes "polygon")) (unwrap_or (number 1 1000 k) 0) 100000 (omega (arith, most_of 1 1000 k (number 1 1000 k) refl))
listed_most (w ∷ p ∷ c ∷ k ∷ l ∷ ws) = omega arith

pub listed_rings : (w : List ℕ) (ws : List (List ℕ)) → bytes_eq w (codes "scatter") ≡ false → listed_by (w ∷ ws) ≤ 1000
listed_rings w [] other = omega arith
listed_rings w (p ∷ []) other = omega arith
listed_rings w (p ∷ k ∷ []) other = rw other (omega arith)
listed_rings w (p ∷ c ∷ k ∷ []) other =
    either_most (bytes_eq w (codes "polygon")) (unwrap_or (number 1 1000 k) 0) 1000 (most_of 1 1000 k (number 1 1000 k) refl)
listed_rings w (p ∷ c ∷ k ∷ l ∷ ws) other = omega arith

none_most : (b : Bool) (k m : ℕ) → k ≤ m → cond b 0 k ≤ m
none_most true k m le = omega arith
none_most false k m le = le

-- how many further lines are asked for, where they are no rows
words_most : (n : ℕ) (ws : List (List ℕ)) → begins_with ws (codes "raster") ≡ false → asked_by n ws ≤ 100000
words_most n [] other = omega arith
words_most n (w ∷ ws) other = rw other (listed_most (w ∷ ws))

words_rings : (n : ℕ) (ws : List (List ℕ)) → begins_with ws (codes "raster") ≡ false → begins_with ws (codes "scatter") ≡ false → asked_by n ws ≤ 1000
words_rings n [] other no_list = omega arith
words_rings n (w ∷ ws) other no_list = rw other (listed_rings w ws no_list)

pub asked_most : (n : ℕ) (line : List ℕ) → begins_with (words_of line) (codes "raster") ≡ false → asked n line ≤ 100000
asked_most n line other = none_most (is_long line || not (list_all is_plain line)) (asked_by n (words_of line)) 100000 (words_most n (words_of line) other)

pub asked_rings : (n : ℕ) (line : List ℕ) → begins_with (words_of line) (codes "raster") ≡ false
    → begins_with (words_of line) (codes "scatter") ≡ false → asked n line ≤ 1000
asked_rings n line other no_list =
    none_most (is_long line || not (list_all is_plain line)) (asked_by n (words_of line)) 1000 (words_rings n (words_of line) other no_list)

-- a point of a list line
abbrev IsOnePoint : Option Point → Type 0
IsOnePoint r = IfSome r IsPointOf16

point_fits : (x y l : List ℕ) (a b c : Option ℕ) → number 0 65535 x ≡ a → number 0 65535 y ≡ b → number 0 4294967295 l ≡ c → IsOnePoint (point a b c)
point_fits x y l (Some a) (Some b) (Some c) first second third = record {
  at = record { x = number_some 0 65535 x a first; y = number_some 0 65535 y b second };
  label = let most : c ≤ 4294967295 = number_some 0 4294967295 l c third in omega (arith, most);
}
point_fits x y l None b c first second third = tt
point_fits x y l (Some a) None c first second third = tt
point_fits x y l (Some a) (Some b) None first second third = tt

words_point : (ws : List (List ℕ)) → IsOnePoint (point_of ws)
words_point [] = tt
words_point (x ∷ []) = tt
words_point (x ∷ y ∷ []) = tt
words_point (x ∷ y ∷ l ∷ []) = point_fits x y l _ _ _ refl refl refl
words_point (x ∷ y ∷ l ∷ m ∷ ws) = tt

-- one for each line, each as it should be
pub record Are {X : Type 0} (P : X → Type 0) (k : ℕ) (xs : List X) : Type 0 where
  pub size : length xs ≡ k
  pub each : All P xs

are_none : {X : Type 0} (P : X → Type 0) → Are P 0 []
are_none P = record { size = refl; each = All-nil P }

next_are : {X : Type 0} (P : X → Type 0) (k : ℕ) (x : Option X) (xs : Option (List X)) → IfSome x P → IfSome xs (Are P k) →
    IfSome (option_and_then (λ y. option_map (λ ys. y ∷ ys) xs) x) (Are P (suc k))
next_are P k None xs one others = tt
next_are P k (Some x) None one others = tt
next_are P k (Some x) (Some xs) one others = record { size = omega (arith, others.size); each = All-cons P x xs one others.each }

either_are : {X : Type 0} (P : X → Type 0) (b : Bool) (r : Option X) → IfSome r P → IfSome (cond b r None) P
either_are P true r is = is
either_are P false r is = tt

pub points_are : (lines : List (List ℕ)) → IfSome (points_joined lines) (Are IsPointOf16 (length lines))
points_are [] = are_none IsPointOf16
points_are (line ∷ lines) =
    either_are (Are IsPointOf16 (suc (length lines))) (nat_le (length line) 64) _
    (next_are IsPointOf16 (length lines) (point_of (words_of line)) (points_joined lines) (words_point (words_of line)) (points_are lines))

-- the corners of a ring line
corner_fits : (x y : List ℕ) (a b : Option ℕ) → number 0 65535 x ≡ a → number 0 65535 y ≡ b → IfSome (corner_of a b) IsCornerOf16
corner_fits x y (Some a) (Some b) first second = record { x = number_some 0 65535 x a first; y = number_some 0 65535 y b second }
corner_fits x y None b first second = tt
corner_fits x y (Some a) None first second = tt

-- half as many corners as words
pub record HalfAre (k : ℕ) (corners : List Corner) : Type 0 where
  pub size : 2 * length corners ≡ k
  pub each : All IsCornerOf16 corners

next_corner : (k : ℕ) (x : Option Corner) (xs : Option (List Corner)) → IfSome x IsCornerOf16 → IfSome xs (HalfAre k) →
    IfSome (option_and_then (λ c. option_map (λ cs. c ∷ cs) xs) x) (HalfAre (suc (suc k)))
next_corner k None xs one others = tt
next_corner k (Some x) None one others = tt
next_corner k (Some x) (Some xs) one others = record { size = omega (arith, others.size); each = All-cons IsCornerOf16 x xs one others.each }

pub corners_are : (ws : List (List ℕ)) → IfSome (corners_of ws) (HalfAre (length ws))
corners_are [] = record { size = refl; each = All-nil IsCornerOf16 }
corners_are (x ∷ []) = tt
corners_are (x ∷ y ∷ ws) = next_corner (length ws) _ (corners_of ws) (corner_fits x y _ _ refl refl) (corners_are ws)

three_corners : (k : ℕ) (r : Option (List Corner)) → 6 ≤ k → IfSome r (HalfAre k) → IfSome r IsRing
three_corners k None some is = tt
three_corners k (Some corners) some is = record { three = omega (arith, is.size, some); each = is.each }

either_ring : (b : Bool) (k : ℕ) (r : Option (List Corner)) → (b ≡ false → 6 ≤ k) → IfSome r (HalfAre k) → IfSome (cond b None r) IsRing
either_ring true k r enough is = tt
either_ring false k r enough is = three_corners k r (enough refl) is

or_second : (a b : Bool) → (a || b) ≡ false → b ≡ false
or_second false b is = is
or_second true b is = cc

ring_fits : (line : List ℕ) → IfSome (ring_of line) IsRing
ring_fits line =
    either_ring (is_long line || nat_lt (length (words_of line)) 6) (length (words_of line)) (corners_of (words_of line))
    (λ not_. ltb-false (length (words_of line)) 6 (or_second (is_long line) (nat_lt (length (words_of line)) 6) not_)) (corners_are (words_of line))

pub rings_are : (lines : List (List ℕ)) → IfSome (rings_joined lines) (Are IsRing (length lines))
rings_are [] = are_none IsRing
rings_are (line ∷ lines) = next_are IsRing (length lines) (ring_of line) (rings_joined lines) (ring_fits line) (rings_are lines)

-- a digit, and a byte of two
pub digit_low : (c : ℕ) → IfSome (hex_digit c) (λ d. d < 16)
digit_low c = elim (cases_Bool (nat_le 48 c && nat_le c 57)) [
  | inl is ↦ rw is (omega (arith, leb-true c 57 (both_right (nat_le 48 c) (nat_le c 57) is)))
  | inr not_ ↦ rw not_ (letter_low c)
]
  where
    letter_low : (c : ℕ) → IfSome (cond (nat_le 97 c && nat_le c 102) (Some (c - 87)) (cond (nat_le 65 c && nat_le c 70) (Some (c - 55)) None)) (λ d. d < 16)
    letter_low c = elim (cases_Bool (nat_le 97 c && nat_le c 102)) [
      | inl is ↦ rw is (omega (arith, leb-true c 102 (both_right (nat_le 97 c) (nat_le c 102) is)))
      | inr not_ ↦ rw not_ (elim (cases_Bool (nat_le 65 c && nat_le c 70)) [
        | inl is ↦ rw is (omega (arith, leb-true c 70 (both_right (nat_le 65 c) (nat_le c 70) is)))
        | inr none ↦ rw none tt
      ])
    ]

abbrev IsByte : ℕ → Type 0
IsByte c = c < 256

-- half as many bytes as digits
pub record Bytes (k : ℕ) (bytes : List ℕ) : Type 0 where
  pub size : 2 * length bytes ≡ k
  pub each : All IsByte bytes

next_byte : (k : ℕ) (a b : Option ℕ) (r : Option (List ℕ)) → IfSome a (λ d. d < 16) → IfSome b (λ d. d < 16) → IfSome r (Bytes k)
    → IfSome (cons_both a b r) (Bytes (suc (suc k)))
next_byte k (Some a) (Some b) (Some r) high low others =
    record { size = omega (arith, others.size); each = All-cons IsByte (16 * a + b) r (omega (arith, high, low)) others.each }
next_byte k None b r high low others = tt
next_byte k (Some a) None r high low others = tt
next_byte k (Some a) (Some b) None high low others = tt

pub row_bytes : (line : List ℕ) → IfSome (row line) (Bytes (length line))
row_bytes [] = record { size = refl; each = All-nil IsByte }
row_bytes (c ∷ []) = tt
row_bytes (c ∷ d ∷ cs) = next_byte (length cs) (hex_digit c) (hex_digit d) (row cs) (digit_low c) (digit_low d) (row_bytes cs)

-- two bytes a colour
pub record RowsAre (f m : ℕ) (bytes : List ℕ) : Type 0 where
  pub size : length bytes ≡ 2 * m
  pub colours : AreColours f bytes

colours_one : (bytes : List ℕ) → All IsByte bytes → RowsAre 1 (length bytes) (flat_map (λ c. 0 ∷ c ∷ []) bytes)
colours_one [] are = record { size = refl; colours = tt }
colours_one (c ∷ bytes) are =
    let others = colours_one bytes (All-tail IsByte c bytes are) in
    let one : c < 256 = All-head IsByte c bytes are in
    record { size = omega (arith, others.size); colours = (omega (arith, one), others.colours) }

colours_two : (bytes : List ℕ) → All IsByte bytes → AreColours 2 bytes
colours_two [] are = tt
colours_two (high ∷ []) are = tt
colours_two (high ∷ low ∷ bytes) are =
    let rest = All-tail IsByte high (low ∷ bytes) are in
    let first : high < 256 = All-head IsByte high (low ∷ bytes) are in
    let second : low < 256 = All-head IsByte low bytes rest in
    (omega (arith, first, second), colours_two bytes (All-tail IsByte low bytes rest))

joined_colours : (f m : ℕ) (xs ys : List ℕ) → length xs ≡ 2 * m → AreColours f xs → AreColours f ys → AreColours f (xs ++ ys)
joined_colours f zero [] ys size first second = second
joined_colours f zero (x ∷ xs) ys size first second = absurd (omega (arith, size))
joined_colours f (suc m) [] ys size first second = absurd (omega (arith, size))
joined_colours f (suc m) (x ∷ []) ys size first second = absurd (omega (arith, size))
joined_colours f (suc m) (x ∷ y ∷ xs) ys size first second = (first.0, joined_colours f m xs ys (omega (arith, size)) first.1 second)

-- the bytes of one row
row_colours : (f width k : ℕ) (bytes : List ℕ) → (f ≡ 1) ⊎ (f ≡ 2) → k ≡ 2 * f * width → Bytes k bytes → RowsAre f width (colour_bytes f bytes)
row_colours f width k bytes (inl one) size are =
    let P : ℕ → Type 0 = λ (g : ℕ). RowsAre g width (colour_bytes g bytes) in
    let long : length bytes ≡ width = omega (arith, are.size, rw one at size) in
    let is = colours_one bytes are.each in
    subst P (sym one) (record { size = omega (arith, is.size, long); colours = is.colours })
row_colours f width k bytes (inr two) size are =
    let P : ℕ → Type 0 = λ (g : ℕ). RowsAre g width (colour_bytes g bytes) in
    subst P (sym two) (record { size = omega (arith, are.size, rw two at size); colours = colours_two bytes are.each })

next_rows : (f width m : ℕ) (bytes rest : Option (List ℕ)) → IfSome bytes (λ b. RowsAre f width (colour_bytes f b)) → IfSome rest (RowsAre f m) →
    IfSome (option_and_then (λ b. option_map (λ r. colour_bytes f b ++ r) rest) bytes) (RowsAre f (m + width))
next_rows f width m None rest one others = tt
next_rows f width m (Some b) None one others = tt
next_rows f width m (Some b) (Some r) one others = record {
  size = omega (arith, length-append (colour_bytes f b) r, one.size, others.size);
  colours = joined_colours f width (colour_bytes f b) r one.size one.colours others.colours;
}

one_row : (f width k : ℕ) (r : Option (List ℕ)) → (f ≡ 1) ⊎ (f ≡ 2) → k ≡ 2 * f * width → IfSome r (Bytes k)
    → IfSome r (λ b. RowsAre f width (colour_bytes f b))
one_row f width k None form size are = tt
one_row f width k (Some b) form size are = row_colours f width k b form size are

either_rows : (f m : ℕ) (b : Bool) (r : Option (List ℕ)) → (b ≡ true → IfSome r (RowsAre f m)) → IfSome (cond b r None) (RowsAre f m)
either_rows f m true r is = is refl
either_rows f m false r is = tt

pub rows_are : (f width : ℕ) (lines : List (List ℕ)) → (f ≡ 1) ⊎ (f ≡ 2) → IfSome (rows_joined f width lines) (RowsAre f (length lines * width))
rows_are f width [] form = record { size = omega arith; colours = tt }
rows_are f width (line ∷ lines) form =
    rw (suc-mul (length lines) width)
    (either_rows f (length lines * width + width) (length line == 2 * f * width) _
    (λ is. next_rows f width (length lines * width) (row line) (rows_joined f width lines)
    (one_row f width (length line) (row line) form (eqb-true (length line) (2 * f * width) is) (row_bytes line)) (rows_are f width lines form)))

-- what each kind of further lines spells, where there are as many as are asked for
rows_fit : (f n : ℕ) (more : List (List ℕ)) → (f ≡ 1) ⊎ (f ≡ 2) → IfSome (rows_of f n more) (IsRows f n)
rows_fit f n more form = elim (cases_Bool (length more == side n)) [
  | inl same ↦ rw same (square (rows_joined f (side n) more) (eqb-true (length more) (side n) same) (rows_are f (side n) more form))
  | inr other ↦ rw other tt
]
  where
    square : (r : Option (List ℕ)) → length more ≡ side n → IfSome r (RowsAre f (length more * side n)) → IfSome r (IsRows f n)
    square None same is = tt
    square (Some bytes) same is = record { size = is.size ∙ ap (λ (k : ℕ). 2 * (k * side n)) same; colours = is.colours }

points_fit : (k : ℕ) (more : List (List ℕ)) → 1 ≤ k → k ≤ 100000 → IfSome (points_of k more) ArePoints
points_fit k more some few = elim (cases_Bool (length more == k)) [
  | inl same ↦ rw same (enough (points_joined more) (eqb-true (length more) k same) (points_are more))
  | inr other ↦ rw other tt
]
  where
    enough : (r : Option (List Point)) → length more ≡ k → IfSome r (Are IsPointOf16 (length more)) → IfSome r ArePoints
    enough None same is = tt
    enough (Some points) same is =
        record { number = record { least = omega (arith, is.size, same, some); most = omega (arith, is.size, same, few) }; each = is.each }

rings_fit : (k : ℕ) (more : List (List ℕ)) → 1 ≤ k → k ≤ 1000 → IfSome (rings_of k more) AreRings
rings_fit k more some few = elim (cases_Bool (length more == k)) [
  | inl same ↦ rw same (enough (rings_joined more) (eqb-true (length more) k same) (rings_are more))
  | inr other ↦ rw other tt
]
  where
    enough : (r : Option (List (List Corner))) → length more ≡ k → IfSome r (Are IsRing (length more)) → IfSome r AreRings
    enough None same is = tt
    enough (Some rings) same is =
        record { number = record { least = omega (arith, is.size, same, some); most = omega (arith, is.size, same, few) }; each = is.each }

no_further : (f n : ℕ) → FurtherFits f n (record { rows = None; points = None; rings = None })
no_further f n = record { rows = tt; points = tt; rings = tt }

as_fits : (f n k : ℕ) (group : Group) → (f ≡ 1) ⊎ (f ≡ 2) → asked n group.line ≡ k → FurtherFits f n (further_of (held_as f n k group))
as_fits f n zero group form is = no_further f n
as_fits f n (suc k) group form is = elim (cases_Bool (begins_with (words_of group.line) (codes "raster"))) [
  | inl raster ↦ rw raster (record { rows = rows_fit f n group.more form; points = tt; rings = tt })
  | inr other ↦ rw other (elim (cases_Bool (begins_with (words_of group.line) (codes "scatter"))) [
    | inl scatter ↦ rw scatter
        (record { rows = tt; points = points_fit (suc k) group.more (omega arith) (omega (arith, is, asked_most n group.line other)); rings = tt })
    | inr no_list ↦ rw no_list
        (record { rows = tt; points = tt; rings = rings_fit (suc k) group.more (omega arith) (omega (arith, is, asked_rings n group.line other no_list)) })
  ])
]

either_fits : (f n : ℕ) (b : Bool) (item : Item) → FurtherFits f n (further_of item) → FurtherFits f n (further_of (cond b Long item))
either_fits f n true item is = no_further f n
either_fits f n false item is = is

one_or_two : (f : ℕ) → 1 ≤ f → f ≤ 2 → (f ≡ 1) ⊎ (f ≡ 2)
one_or_two f low high = elim (cases_Bool (f == 1)) [
  | inl one ↦ inl (eqb-true f 1 one)
  | inr other ↦ inr (let no_one : f ≢ 1 = eqb-false f 1 other in omega (arith, low, high, no_one))
]

pub further_fits : (f n : ℕ) (group : Group) → 1 ≤ f → f ≤ 2 → FurtherFits f n (further_of (held f n group))
unfolding held
further_fits f n group low high =
    either_fits f n (is_long group.line) (held_as f n (asked n group.line) group) (as_fits f n (asked n group.line) group (one_or_two f low high) refl)

-- an item that some lines hold spells the command that is parsed of it
pub spelled : (f : ℕ) (item : Item) (r : Result Command ParseErr) → IsParsedAs r (form f item) →
    IfOk r (λ command. (n : ℕ) (group : Group) → held f n group ≡ item → Spelled f n command)
spelled f item (Err e) is = tt
spelled f item (Ok command) is = λ n group same. (group, ap (form f) same ∙ is)
