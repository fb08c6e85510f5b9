-- Rows read one after another over their own digits.
use Rattle.std.proofs.Common.{◌≡◌, ◌≢◌, ℕ, zero, suc, ◌+◌, ◌-◌, ◌*◌, ◌<◌, ◌≤◌, ◌==◌, min, Bool, true, false, List, [], ◌∷◌, ◌++◌, length, take, drop, Option, Some, None}
use Rattle.std.proofs.Common.{option_map, cond, refl, sym, ◌∙◌, ap, subst, arith, inl, inr, append-nil, length-append, length-drop}
use Rattle.std.proofs.lemmas.List.{drop-drop, length-take-le}
use Rattle.std.proofs.lemmas.Slice.{take-put_mid, drop-put_mid}
use borrow.Rule.Slice.PartMut.{put_mid}
use Rattle.std.proofs.lemmas.Bool.{eqb-true, eqb-false, eq-eqb, ne_eqb, cases_Bool}
use Rattle.quilt_types.specs.Plane.{side}
use Rattle.quilt_words.specs.Items.{lines_of, rows_joined, rows_of}
use Rattle.quilt_words.specs.Spelling.{row}
use Rattle.quilt_lang.specs.Cutting.{Cuts}
use Rattle.quilt_lang.specs.Spelled.{rows_front}
use Rattle.quilt_lang.proofs.Joins.{before, either_row, one_row, onto_more, some_same}
use Rattle.quilt_lang.proofs.Pieces.{drop_min}

-- a list and one that it begins
same_suc : (a k : ℕ) → (suc a == suc k) ≡ (a == k)
same_suc a k = elim (cases_Bool (a == k)) [
  | inl is ↦ eq-eqb (suc a) (suc k) (ap suc (eqb-true a k is)) ∙ sym is
  | inr other ↦ let no : a ≢ k = eqb-false a k other in ne_eqb (suc a) (suc k) (λ e. no (omega (arith, e))) ∙ sym other
]

none_before : (first : Option (List ℕ)) → before first None ≡ None
none_before None = refl
none_before (Some got) = refl

only_all : (b : Bool) (first others : Option (List ℕ)) → cond b (before first others) None ≡ before first (cond b others None)
only_all true first others = refl
only_all false first others = sym (none_before first)

-- the rows of a raster are those of so many lines at the front
joined_front : (f width k : ℕ) (lines : List (List ℕ)) →
    cond (length (take k lines) == k) (rows_joined f width (take k lines)) None ≡ rows_front f width k lines
joined_front f width zero [] = refl
joined_front f width zero (line ∷ lines) = refl
joined_front f width (suc k) [] = ap (λ (b : Bool). cond {A = Option (List ℕ)} b (Some []) None) (ne_eqb 0 (suc k) (λ e. omega (arith, e)))
joined_front f width (suc k) (line ∷ lines) =
    let long : Bool = length line == 2 * f * width in
    let others : Option (List ℕ) = rows_joined f width (take k lines) in
    ap (λ (b : Bool). cond b (rows_joined f width (line ∷ take k lines)) None) (same_suc (length (take k lines)) k)
    ∙ ap (λ (o : Option (List ℕ)). cond (length (take k lines) == k) o None) (either_row f long (row line) others)
    ∙ only_all (length (take k lines) == k) (one_row f width line) others
    ∙ ap (before (one_row f width line)) (joined_front f width k lines)
    ∙ sym (either_row f long (row line) (rows_front f width k lines))

rows_are_front : (f n : ℕ) (lines : List (List ℕ)) → rows_of f n (take (side n) lines) ≡ rows_front f (side n) (side n) lines
rows_are_front f n lines = joined_front f (side n) (side n) lines

-- the first row, and one that is not well formed
front_some : (f width k : ℕ) (line got : List ℕ) (lines : List (List ℕ)) → Some got ≡ one_row f width line →
    rows_front f width (suc k) (line ∷ lines) ≡ option_map (λ r. got ++ r) (rows_front f width k lines)
front_some f width k line got lines is =
    either_row f (length line == 2 * f * width) (row line) (rows_front f width k lines)
    ∙ ap (λ (o : Option (List ℕ)). before o (rows_front f width k lines)) (sym is)

front_none : (f width k : ℕ) (line : List ℕ) (lines : List (List ℕ)) → None ≡ one_row f width line → rows_front f width (suc k) (line ∷ lines) ≡ None
front_none f width k line lines is =
    either_row f (length line == 2 * f * width) (row line) (rows_front f width k lines)
    ∙ ap (λ (o : Option (List ℕ)). before o (rows_front f width k lines)) (sym is)

-- what stands behind a line of a text
pub row_behind : (text rest : List ℕ) (from len m : ℕ) → rest ≡ drop from text → m ≡ min (length rest) (len + 1) → drop (from + m) text ≡ drop (len + 1) rest
row_behind text rest from len m same least =
    sym (drop-drop m from text) ∙ ap (drop m) (sym same) ∙ ap (λ (x : ℕ). drop x rest) least ∙ drop_min (len + 1) rest

lines_next : (text rest : List ℕ) (from len m : ℕ) → rest ≡ drop from text → m ≡ min (length rest) (len + 1)
    → Cuts true (take len rest ∷ []) rest (drop (len + 1) rest) →
    lines_of (drop from text) ≡ take len rest ∷ lines_of (drop (from + m) text)
lines_next text rest from len m same least cuts =
    let lines : lines_of rest ≡ take len rest ∷ lines_of (drop (len + 1) rest) = rw (append-nil rest, append-nil (drop (len + 1) rest)) at (cuts.all [] refl) in
    ap lines_of (sym same) ∙ lines
    ∙ ap (λ (t : List ℕ). take len rest ∷ lines_of t) (sym (row_behind text rest from len m same least))

pub row_missing : (f width : ℕ) (text rest : List ℕ) (from : ℕ) → rest ≡ drop from text → lines_of rest ≡ [] →
    (k : ℕ) → rows_front f width (suc k) (lines_of (drop from text)) ≡ None
row_missing f width text rest from same none = λ k. ap (rows_front f width (suc k)) (ap lines_of (sym same) ∙ none)

pub row_other : (f width : ℕ) (text rest : List ℕ) (from len : ℕ) → rest ≡ drop from text → Cuts true (take len rest ∷ []) rest (drop (len + 1) rest)
    → None ≡ one_row f width (take len rest) →
    (k : ℕ) → rows_front f width (suc k) (lines_of (drop from text)) ≡ None
row_other f width text rest from len same cuts is = λ k.
    ap (rows_front f width (suc k)) (lines_next text rest from len (min (length rest) (len + 1)) same refl cuts)
    ∙ front_none f width k (take len rest) (lines_of (drop (from + min (length rest) (len + 1)) text)) is

pub row_read : (f width : ℕ) (text rest got : List ℕ) (from len m : ℕ) → rest ≡ drop from text → m ≡ min (length rest) (len + 1)
    → Cuts true (take len rest ∷ []) rest (drop (len + 1) rest) → Some got ≡ one_row f width (take len rest) →
    (k : ℕ) → rows_front f width (suc k) (lines_of (drop from text)) ≡ option_map (λ r. got ++ r) (rows_front f width k (lines_of (drop (from + m) text)))
row_read f width text rest got from len m same least cuts is = λ k.
    ap (rows_front f width (suc k)) (lines_next text rest from len m same least cuts)
    ∙ front_some f width k (take len rest) got (lines_of (drop (from + m) text)) is

-- So far the bytes up to an index have the colours of the rows before another one, which is no lower, and behind that one so many rows are left.
pub record ReadOver (f width left src dst : ℕ) (bytes : List ℕ) (all : Option (List ℕ)) : Type 0 where
  pub order : dst ≤ src
  pub within : src ≤ length bytes
  pub rest : all ≡ option_map (λ r. take dst bytes ++ r) (rows_front f width left (lines_of (drop src bytes)))

nothing_taken : (bytes : List ℕ) → take 0 bytes ≡ []
nothing_taken [] = refl
nothing_taken (c ∷ bytes) = refl

pub over_first : (f n width from : ℕ) (bytes : List ℕ) → width ≡ side n → from ≤ length bytes →
    ReadOver f width width from 0 bytes (rows_of f n (take (side n) (lines_of (drop from bytes))))
over_first f n width from bytes same within =
    let lines : List (List ℕ) = lines_of (drop from bytes) in
    record {
      order = omega arith;
      within = within;
      rest = rows_are_front f n lines ∙ ap (λ (w : ℕ). rows_front f w w lines) (sym same) ∙ some_same (rows_front f width width lines)
          ∙ ap (λ (l : List ℕ). option_map (λ r. l ++ r) (rows_front f width width lines)) (sym (nothing_taken bytes));
    }

size_over : (dst : ℕ) (bytes got : List ℕ) → dst + length got ≤ length bytes → length (put_mid dst (length got) bytes got) ≡ length bytes
size_over dst bytes got room =
    let back : List ℕ = drop (length got) (drop dst bytes) in
    omega (
      arith,
      room,
      length-append (take dst bytes) (got ++ back),
      length-append got back,
      length-take-le dst bytes (omega (arith, room)),
      length-drop (length got) (drop dst bytes),
      length-drop dst bytes,
    )

over_next : (f width left src dst next : ℕ) (bytes got : List ℕ) (all : Option (List ℕ)) → 0 < left → ReadOver f width left src dst bytes all →
    src + length got ≤ next → next ≤ length bytes →
    ((k : ℕ) → rows_front f width (suc k) (lines_of (drop src bytes)) ≡ option_map (λ r. got ++ r) (rows_front f width k (lines_of (drop next bytes)))) →
    ReadOver f width (left - 1) next (dst + length got) (put_mid dst (length got) bytes got) all
over_next f width left src dst next bytes got all some so past within is =
    let new : List ℕ = put_mid dst (length got) bytes got in
    let low : dst ≤ length bytes = omega (arith, so.order, so.within) in
    let one : left ≡ suc (left - 1) = omega (arith, some) in
    let front : take (dst + length got) new ≡ take dst bytes ++ got = take-put_mid dst (length got) bytes got (dst + length got) refl low in
    let back : drop next new ≡ drop next bytes = drop-put_mid dst (length got) bytes got next (omega (arith, so.order, past)) low refl in
    let others : Option (List ℕ) = rows_front f width (left - 1) (lines_of (drop next bytes)) in
    record {
      order = omega (arith, so.order, past);
      within = omega (arith, within, size_over dst bytes got (omega (arith, so.order, past, within)));
      rest =
          so.rest
          ∙ ap (λ (k : ℕ). option_map (λ r. take dst bytes ++ r) (rows_front f width k (lines_of (drop src bytes)))) one
          ∙ ap (option_map (λ r. take dst bytes ++ r)) (is (left - 1))
          ∙ onto_more (take dst bytes) got others
          ∙ ap (λ (l : List ℕ). option_map (λ r. l ++ r) others) (sym front)
          ∙ ap (λ (t : List ℕ). option_map (λ r. take (dst + length got) new ++ r) (rows_front f width (left - 1) (lines_of t))) (sym back);
    }

pub over_put : (f width left src dst next k : ℕ) (bytes got put : List ℕ) (all : Option (List ℕ)) → k ≡ length got → put ≡ got → 0 < left
    → ReadOver f width left src dst bytes all → src + length got ≤ next → next ≤ length bytes →
    ((k : ℕ) → rows_front f width (suc k) (lines_of (drop src bytes)) ≡ option_map (λ r. got ++ r) (rows_front f width k (lines_of (drop next bytes)))) →
    ReadOver f width (left - 1) next (dst + length got) (put_mid dst k bytes put) all
over_put f width left src dst next k bytes got put all size same some so past within is =
    let P : ℕ → Type 0 = λ (m : ℕ). ReadOver f width (left - 1) next (dst + length got) (put_mid dst m bytes put) all in
    let Q : List ℕ → Type 0 = λ (l : List ℕ). ReadOver f width (left - 1) next (dst + length got) (put_mid dst (length got) bytes l) all in
    subst P (sym size) (subst Q (sym same) (over_next f width left src dst next bytes got all some so past within is))

pub over_none : (f width left src dst : ℕ) (bytes : List ℕ) (all : Option (List ℕ)) → 0 < left → ReadOver f width left src dst bytes all →
    ((k : ℕ) → rows_front f width (suc k) (lines_of (drop src bytes)) ≡ None) → None ≡ all
over_none f width left src dst bytes all some so is =
    let one : left ≡ suc (left - 1) = omega (arith, some) in
    sym
    (so.rest ∙ ap (λ (k : ℕ). option_map (λ r. take dst bytes ++ r) (rows_front f width k (lines_of (drop src bytes)))) one
    ∙ ap (option_map (λ r. take dst bytes ++ r)) (is (left - 1)))
