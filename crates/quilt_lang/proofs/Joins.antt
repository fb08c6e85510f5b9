-- Lists that are read a part at a time, and are nothing where a part is.
use Rattle.std.proofs.Common.{◌≡◌, ◌≢◌, ◌%◌, ◌==◌, IfSome, ℕ, suc, ◌+◌, ◌*◌, ◌<◌, ◌≤◌, Bool, true, false, nat_le, List, [], ◌∷◌, ◌++◌, length, map, drop}
use Rattle.std.proofs.Common.{get_or, Option, Some, None, option_map, option_and_then, if◌then◌else◌, cond, refl, sym, ◌∙◌, ap, arith, append_assoc, append-nil}
use Rattle.std.proofs.Common.{drop-cons}
use Rattle.std.proofs.lemmas.List.{drop_all, length-map}
use Rattle.quilt_types.specs.declared.plane.Point.{Point}
use Rattle.quilt_types.specs.declared.plane.Corner.{Corner}
use Rattle.quilt_words.specs.Items.{points_joined, point_of, words_of, rows_joined, colour_bytes, corner_of, corners_of, ring_of, rings_joined}
use Rattle.quilt_lang.specs.Spelled.{with_byte}
use Rattle.quilt_words.proofs.Holding.{Bytes, row_bytes, HalfAre, corners_are}
use Rattle.quilt_words.specs.Spelling.{number, row}

-- what one part and the others make
abbrev pub before : {A : Type 0} → Option (List A) → Option (List A) → Option (List A)
before first others = option_and_then (λ b. option_map (λ r. b ++ r) others) first

pub onto_more : {A : Type 0} (got b : List A) (others : Option (List A))
    → option_map (λ r. got ++ r) (before (Some b) others) ≡ option_map (λ r. (got ++ b) ++ r) others
onto_more got b None = refl
onto_more got b (Some r) = ap Some (sym (append_assoc got b r))

-- the point of a list line
abbrev pub one_point : List ℕ → Option Point
one_point line = if nat_le (length line) 64 then point_of (words_of line) else None

either_point : (b : Bool) (p : Option Point) (others : Option (List Point)) →
    cond b (option_and_then (λ q. option_map (λ ps. q ∷ ps) others) p) None ≡ before (option_map (λ q. q ∷ []) (cond b p None)) others
either_point true None others = refl
either_point true (Some p) None = refl
either_point true (Some p) (Some ps) = refl
either_point false p others = refl

points_next : (line : List ℕ) (lines : List (List ℕ)) → points_joined (line ∷ lines) ≡ before (option_map (λ q. q ∷ []) (one_point line)) (points_joined lines)
points_next line lines = either_point (nat_le (length line) 64) (point_of (words_of line)) (points_joined lines)

-- so far these points were read
abbrev pub PointsSoFar : {X : Type 0} → (X → List ℕ) → List X → ℕ → List Point → Type 0
PointsSoFar g xs i got = points_joined (map g xs) ≡ option_map (λ r. got ++ r) (points_joined (map g (drop i xs)))

pub some_same : {A : Type 0} (r : Option (List A)) → r ≡ option_map (λ x. [] ++ x) r
some_same None = refl
some_same (Some x) = refl

pub points_none : {X : Type 0} (g : X → List ℕ) (xs : List X) → PointsSoFar g xs 0 []
points_none g xs = some_same (points_joined (map g xs))

points_at : {X : Type 0} (g : X → List ℕ) (xs : List X) (i : ℕ) (d : X) (got : List Point) → i < length xs → PointsSoFar g xs i got →
    points_joined (map g xs)
    ≡ option_map (λ r. got ++ r) (before (option_map (λ q. q ∷ []) (one_point (g (get_or xs i d)))) (points_joined (map g (drop (suc i) xs))))
points_at g xs i d got within so =
    so ∙ ap (λ ys. option_map (λ r. got ++ r) (points_joined (map g ys))) (drop-cons xs i d within)
    ∙ ap (option_map (λ r. got ++ r)) (points_next (g (get_or xs i d)) (map g (drop (suc i) xs)))

pub points_more : {X : Type 0} (g : X → List ℕ) (xs : List X) (i : ℕ) (d : X) (got : List Point) (p : Point) → i < length xs → PointsSoFar g xs i got →
    Some p ≡ one_point (g (get_or xs i d)) → PointsSoFar g xs (i + 1) (got ++ p ∷ [])
points_more g xs i d got p within so is =
    let next : i + 1 ≡ suc i = omega arith in
    rw next
    (points_at g xs i d got within so
    ∙ ap (λ (o : Option Point). option_map (λ r. got ++ r) (before (option_map (λ q. q ∷ []) o) (points_joined (map g (drop (suc i) xs))))) (sym is)
    ∙ onto_more got (p ∷ []) (points_joined (map g (drop (suc i) xs))))

pub points_fail : {X : Type 0} (g : X → List ℕ) (xs : List X) (i : ℕ) (d : X) (got : List Point) → i < length xs → PointsSoFar g xs i got →
    None ≡ one_point (g (get_or xs i d)) → None ≡ points_joined (map g xs)
points_fail g xs i d got within so is =
    sym
    (points_at g xs i d got within so
    ∙ ap (λ (o : Option Point). option_map (λ r. got ++ r) (before (option_map (λ q. q ∷ []) o) (points_joined (map g (drop (suc i) xs))))) (sym is))

pub points_end : {X : Type 0} (g : X → List ℕ) (xs : List X) (i : ℕ) (got : List Point) → length xs ≤ i → PointsSoFar g xs i got
    → Some got ≡ points_joined (map g xs)
points_end g xs i got past so = sym (so ∙ ap (λ ys. option_map (λ r. got ++ r) (points_joined (map g ys))) (drop_all i xs past) ∙ ap Some (append-nil got))

-- the bytes of a row
abbrev pub BytesSoFar : List ℕ → ℕ → List ℕ → Type 0
BytesSoFar line i got = row line ≡ option_map (λ r. got ++ r) (row (drop i line))

byte_onto : (got : List ℕ) (b : ℕ) (r : Option (List ℕ)) → option_map (λ x. got ++ x) (with_byte (Some b) r) ≡ option_map (λ x. (got ++ b ∷ []) ++ x) r
byte_onto got b None = refl
byte_onto got b (Some r) = ap Some (sym (append_assoc got (b ∷ []) r))

pub bytes_none : (line : List ℕ) → BytesSoFar line 0 []
bytes_none line = some_same (row line)

pub bytes_at : (line : List ℕ) (i j k : ℕ) (r : Option ℕ) (got : List ℕ) → j ≡ suc i → k ≡ suc j → j < length line → BytesSoFar line i got →
    ((rest : List ℕ) → row (get_or line i 0 ∷ get_or line j 0 ∷ rest) ≡ with_byte r (row rest))
    → row line ≡ option_map (λ x. got ++ x) (with_byte r (row (drop k line)))
bytes_at line i j k r got second third within so is =
    let low : i < length line = omega (arith, within, second) in
    let next : drop (suc i) line ≡ get_or line j 0 ∷ drop k line = rw (sym second, third) (drop-cons line j 0 within) in
    so ∙ ap (λ l. option_map (λ x. got ++ x) (row l)) (drop-cons line i 0 low ∙ ap (λ l. get_or line i 0 ∷ l) next)
    ∙ ap (option_map (λ x. got ++ x)) (is (drop k line))

pub bytes_more : (line : List ℕ) (i b : ℕ) (got : List ℕ) → i + 1 < length line → BytesSoFar line i got →
    ((rest : List ℕ) → row (get_or line i 0 ∷ get_or line (i + 1) 0 ∷ rest) ≡ with_byte (Some b) (row rest)) → BytesSoFar line (i + 2) (got ++ b ∷ [])
bytes_more line i b got within so is =
    bytes_at line i (i + 1) (i + 2) (Some b) got (omega arith) (omega arith) within so is ∙ byte_onto got b (row (drop (i + 2) line))

-- the same, each behind a byte of 0
abbrev pub WideSoFar : List ℕ → ℕ → List ℕ → Type 0
WideSoFar line i got = option_map (colour_bytes 1) (row line) ≡ option_map (λ r. got ++ r) (option_map (colour_bytes 1) (row (drop i line)))

pub wide_none : (line : List ℕ) → WideSoFar line 0 []
wide_none line = some_same (option_map (colour_bytes 1) (row line))

wide_onto : (got : List ℕ) (b : ℕ) (r : Option (List ℕ)) →
    option_map (λ x. got ++ x) (option_map (colour_bytes 1) (with_byte (Some b) r))
    ≡ option_map (λ x. ((got ++ 0 ∷ []) ++ b ∷ []) ++ x) (option_map (colour_bytes 1) r)
wide_onto got b None = refl
wide_onto got b (Some r) =
    ap Some (sym (append_assoc (got ++ 0 ∷ []) (b ∷ []) (colour_bytes 1 r) ∙ append_assoc got (0 ∷ []) (b ∷ colour_bytes 1 r)))

pub wide_at : (line : List ℕ) (i j k : ℕ) (r : Option ℕ) (got : List ℕ) → j ≡ suc i → k ≡ suc j → j < length line → WideSoFar line i got →
    ((rest : List ℕ) → row (get_or line i 0 ∷ get_or line j 0 ∷ rest) ≡ with_byte r (row rest))
    → option_map (colour_bytes 1) (row line) ≡ option_map (λ x. got ++ x) (option_map (colour_bytes 1) (with_byte r (row (drop k line))))
wide_at line i j k r got second third within so is =
    let low : i < length line = omega (arith, within, second) in
    let next : drop (suc i) line ≡ get_or line j 0 ∷ drop k line = rw (sym second, third) (drop-cons line j 0 within) in
    so
    ∙ ap (λ l. option_map (λ x. got ++ x) (option_map (colour_bytes 1) (row l))) (drop-cons line i 0 low ∙ ap (λ l. get_or line i 0 ∷ l) next)
    ∙ ap (λ (o : Option (List ℕ)). option_map (λ x. got ++ x) (option_map (colour_bytes 1) o)) (is (drop k line))

pub wide_more : (line : List ℕ) (i b : ℕ) (got : List ℕ) → i + 1 < length line → WideSoFar line i got →
    ((rest : List ℕ) → row (get_or line i 0 ∷ get_or line (i + 1) 0 ∷ rest) ≡ with_byte (Some b) (row rest))
    → WideSoFar line (i + 2) ((got ++ 0 ∷ []) ++ b ∷ [])
wide_more line i b got within so is =
    wide_at line i (i + 1) (i + 2) (Some b) got (omega arith) (omega arith) within so is ∙ wide_onto got b (row (drop (i + 2) line))

odd : (k : ℕ) (r : Option (List ℕ)) → IfSome r (Bytes k) → k % 2 ≢ 0 → None ≡ r
odd k None is not_even = refl
odd k (Some bytes) is not_even = absurd (omega (arith, is.size, not_even))

-- an odd number of digits is no row
pub odd_row : (line : List ℕ) → length line % 2 ≢ 0 → None ≡ row line
odd_row line not_even = odd (length line) (row line) (row_bytes line) not_even

pub odd_wide : (line : List ℕ) → length line % 2 ≢ 0 → None ≡ option_map (colour_bytes 1) (row line)
odd_wide line not_even = ap (option_map (colour_bytes 1)) (odd_row line not_even)

-- the colours of one row
abbrev pub one_row : ℕ → ℕ → List ℕ → Option (List ℕ)
one_row f width line = if length line == 2 * f * width then option_map (colour_bytes f) (row line) else None

pub either_row : (f : ℕ) (b : Bool) (r others : Option (List ℕ)) →
    cond b (option_and_then (λ bytes. option_map (λ rest. colour_bytes f bytes ++ rest) others) r) None
    ≡ before (cond b (option_map (colour_bytes f) r) None) others
either_row f true None others = refl
either_row f true (Some r) others = refl
either_row f false r others = refl

-- so far these rows were read
abbrev pub RowsSoFar : {X : Type 0} → ℕ → ℕ → (X → List ℕ) → List X → ℕ → List ℕ → Type 0
RowsSoFar f width g xs i got = rows_joined f width (map g xs) ≡ option_map (λ r. got ++ r) (rows_joined f width (map g (drop i xs)))

pub rows_none : {X : Type 0} (f width : ℕ) (g : X → List ℕ) (xs : List X) → RowsSoFar f width g xs 0 []
rows_none f width g xs = some_same (rows_joined f width (map g xs))

rows_at : {X : Type 0} (f width : ℕ) (g : X → List ℕ) (xs : List X) (i : ℕ) (d : X) (got : List ℕ) → i < length xs → RowsSoFar f width g xs i got →
    rows_joined f width (map g xs) ≡ option_map (λ r. got ++ r) (before (one_row f width (g (get_or xs i d))) (rows_joined f width (map g (drop (suc i) xs))))
rows_at f width g xs i d got within so =
    so ∙ ap (λ ys. option_map (λ r. got ++ r) (rows_joined f width (map g ys))) (drop-cons xs i d within)
    ∙ ap (option_map (λ r. got ++ r))
    (either_row f (length (g (get_or xs i d)) == 2 * f * width) (row (g (get_or xs i d))) (rows_joined f width (map g (drop (suc i) xs))))

pub rows_more : {X : Type 0} (f width : ℕ) (g : X → List ℕ) (xs : List X) (i : ℕ) (d : X) (got bytes : List ℕ) → i < length xs → RowsSoFar f width g xs i got →
    Some bytes ≡ one_row f width (g (get_or xs i d)) → RowsSoFar f width g xs (i + 1) (got ++ bytes)
rows_more f width g xs i d got bytes within so is =
    let next : i + 1 ≡ suc i = omega arith in
    rw next
    (rows_at f width g xs i d got within so
    ∙ ap (λ (o : Option (List ℕ)). option_map (λ r. got ++ r) (before o (rows_joined f width (map g (drop (suc i) xs))))) (sym is)
    ∙ onto_more got bytes (rows_joined f width (map g (drop (suc i) xs))))

pub rows_fail : {X : Type 0} (f width : ℕ) (g : X → List ℕ) (xs : List X) (i : ℕ) (d : X) (got : List ℕ) → i < length xs → RowsSoFar f width g xs i got →
    None ≡ one_row f width (g (get_or xs i d)) → None ≡ rows_joined f width (map g xs)
rows_fail f width g xs i d got within so is =
    sym
    (rows_at f width g xs i d got within so
    ∙ ap (λ (o : Option (List ℕ)). option_map (λ r. got ++ r) (before o (rows_joined f width (map g (drop (suc i) xs))))) (sym is))

pub rows_end : {X : Type 0} (f width : ℕ) (g : X → List ℕ) (xs : List X) (i : ℕ) (got : List ℕ) → length xs ≤ i → RowsSoFar f width g xs i got →
    Some got ≡ rows_joined f width (map g xs)
rows_end f width g xs i got past so =
    sym (so ∙ ap (λ ys. option_map (λ r. got ++ r) (rows_joined f width (map g ys))) (drop_all i xs past) ∙ ap Some (append-nil got))

-- the corner that two words spell
abbrev pub one_corner : List ℕ → List ℕ → Option Corner
one_corner x y = corner_of (number 0 65535 x) (number 0 65535 y)

-- a corner before others
abbrev pub corner_before : Option Corner → Option (List Corner) → Option (List Corner)
corner_before first others = option_and_then (λ c. option_map (λ cs. c ∷ cs) others) first

corner_onto : (got : List Corner) (c : Corner) (r : Option (List Corner))
    → option_map (λ x. got ++ x) (corner_before (Some c) r) ≡ option_map (λ x. (got ++ c ∷ []) ++ x) r
corner_onto got c None = refl
corner_onto got c (Some r) = ap Some (sym (append_assoc got (c ∷ []) r))

-- so far these corners were read
abbrev pub CornersSoFar : {X : Type 0} → (X → List ℕ) → List X → ℕ → List Corner → Type 0
CornersSoFar g xs i got = corners_of (map g xs) ≡ option_map (λ r. got ++ r) (corners_of (map g (drop i xs)))

pub corners_none : {X : Type 0} (g : X → List ℕ) (xs : List X) → CornersSoFar g xs 0 []
corners_none g xs = some_same (corners_of (map g xs))

corners_at : {X : Type 0} (g : X → List ℕ) (xs : List X) (i j k : ℕ) (d : X) (got : List Corner) → j ≡ suc i → k ≡ suc j → j < length xs
    → CornersSoFar g xs i got →
    corners_of (map g xs) ≡ option_map (λ r. got ++ r) (corner_before (one_corner (g (get_or xs i d)) (g (get_or xs j d))) (corners_of (map g (drop k xs))))
corners_at g xs i j k d got second third within so =
    let low : i < length xs = omega (arith, within, second) in
    let next : drop (suc i) xs ≡ get_or xs j d ∷ drop k xs = rw (sym second, third) (drop-cons xs j d within) in
    so ∙ ap (λ l. option_map (λ x. got ++ x) (corners_of (map g l))) (drop-cons xs i d low ∙ ap (λ l. get_or xs i d ∷ l) next)

pub corners_more : {X : Type 0} (g : X → List ℕ) (xs : List X) (i : ℕ) (d : X) (got : List Corner) (c : Corner) → i + 1 < length xs → CornersSoFar g xs i got →
    Some c ≡ one_corner (g (get_or xs i d)) (g (get_or xs (i + 1) d)) → CornersSoFar g xs (i + 2) (got ++ c ∷ [])
corners_more g xs i d got c within so is =
    corners_at g xs i (i + 1) (i + 2) d got (omega arith) (omega arith) within so
    ∙ ap (λ (o : Option Corner). option_map (λ r. got ++ r) (corner_before o (corners_of (map g (drop (i + 2) xs))))) (sym is)
    ∙ corner_onto got c (corners_of (map g (drop (i + 2) xs)))

odd_half : (k : ℕ) (r : Option (List Corner)) → IfSome r (HalfAre k) → k % 2 ≢ 0 → None ≡ r
odd_half k None is not_even = refl
odd_half k (Some corners) is not_even = absurd (omega (arith, is.size, not_even))

-- an odd number of words spells no corners
pub odd_corners : {X : Type 0} (g : X → List ℕ) (xs : List X) → length xs % 2 ≢ 0 → None ≡ corners_of (map g xs)
odd_corners g xs not_even = rw (length-map xs g) at (odd_half (length (map g xs)) (corners_of (map g xs)) (corners_are (map g xs))) not_even

-- so far these rings were read
abbrev pub RingsSoFar : {X : Type 0} → (X → List ℕ) → List X → ℕ → List (List Corner) → Type 0
RingsSoFar g xs i got = rings_joined (map g xs) ≡ option_map (λ r. got ++ r) (rings_joined (map g (drop i xs)))

ring_before : (r : Option (List Corner)) (others : Option (List (List Corner))) →
    option_and_then (λ q. option_map (λ qs. q ∷ qs) others) r ≡ before (option_map (λ q. q ∷ []) r) others
ring_before None others = refl
ring_before (Some r) None = refl
ring_before (Some r) (Some rs) = refl

pub rings_none : {X : Type 0} (g : X → List ℕ) (xs : List X) → RingsSoFar g xs 0 []
rings_none g xs = some_same (rings_joined (map g xs))

rings_at : {X : Type 0} (g : X → List ℕ) (xs : List X) (i : ℕ) (d : X) (got : List (List Corner)) → i < length xs → RingsSoFar g xs i got →
    rings_joined (map g xs)
    ≡ option_map (λ r. got ++ r) (before (option_map (λ q. q ∷ []) (ring_of (g (get_or xs i d)))) (rings_joined (map g (drop (suc i) xs))))
rings_at g xs i d got within so =
    so ∙ ap (λ ys. option_map (λ r. got ++ r) (rings_joined (map g ys))) (drop-cons xs i d within)
    ∙ ap (option_map (λ r. got ++ r)) (ring_before (ring_of (g (get_or xs i d))) (rings_joined (map g (drop (suc i) xs))))

pub rings_more : {X : Type 0} (g : X → List ℕ) (xs : List X) (i : ℕ) (d : X) (got : List (List Corner)) (ring : List Corner)
    → i < length xs → RingsSoFar g xs i got →
    Some ring ≡ ring_of (g (get_or xs i d)) → RingsSoFar g xs (i + 1) (got ++ ring ∷ [])
rings_more g xs i d got ring within so is =
    let next : i + 1 ≡ suc i = omega arith in
    rw next
    (rings_at g xs i d got within so
    ∙ ap (λ (o : Option (List Corner)). option_map (λ r. got ++ r) (before (option_map (λ q. q ∷ []) o) (rings_joined (map g (drop (suc i) xs))))) (sym is)
    ∙ onto_more got (ring ∷ []) (rings_joined (map g (drop (suc i) xs))))

pub rings_fail : {X : Type 0} (g : X → List ℕ) (xs : List X) (i : ℕ) (d : X) (got : List (List Corner)) → i < length xs → RingsSoFar g xs i got →
    None ≡ ring_of (g (get_or xs i d)) → None ≡ rings_joined (map g xs)
rings_fail g xs i d got within so is =
    sym
    (rings_at g xs i d got within so
    ∙ ap (λ (o : Option (List Corner)). option_map (λ r. got ++ r) (before (option_map (λ q. q ∷ []) o) (rings_joined (map g (drop (suc i) xs))))) (sym is))

pub rings_end : {X : Type 0} (g : X → List ℕ) (xs : List X) (i : ℕ) (got : List (List Corner)) → length xs ≤ i → RingsSoFar g xs i got
    → Some got ≡ rings_joined (map g xs)
rings_end g xs i got past so = sym (so ∙ ap (λ ys. option_map (λ r. got ++ r) (rings_joined (map g ys))) (drop_all i xs past) ∙ ap Some (append-nil got))
