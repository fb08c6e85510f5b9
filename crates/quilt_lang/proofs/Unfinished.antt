-- The bytes behind the last newline of a text, and the lines before them.
use Rattle.std.proofs.Common.{◌≡◌, ℕ, ◌+◌, ◌<◌, false, ◌==◌, List, [], ◌∷◌, ◌++◌, length, refl, sym, ◌∙◌, ap, arith, append_assoc, inl, inr}
use Rattle.std.proofs.Common.{length-append, append-nil, drop}
use Rattle.std.proofs.Math.Seq.{drop-append_seam}
use Rattle.std.specs.List.{onto_first}
use Rattle.std.proofs.lemmas.List.Splits.{length-slice_split, slice_split_none}
use Rattle.std.proofs.lemmas.List.Elements.{All-nil, All-cons}
use Rattle.std.proofs.lemmas.Bool.{cases_Bool}
use Rattle.quilt_words.specs.Items.{lines_of, whole_lines, without_empty_end, without_last}
use Rattle.quilt_lang.specs.Reading.{IsLine, last_part, unfinished}
use Rattle.quilt_lang.specs.Cutting.{Cuts}
use Rattle.quilt_lang.proofs.LineLaws.{not_empty_end, not_last, last_line, whole_none}
use Rattle.quilt_lang.proofs.Counts.{line_joined}
use Rattle.quilt_lang.proofs.Long.{onto, pieces, onto_one, onto_none, split_onto, first_of, later_of, lines_onto, whole_onto}

-- a byte before a text
begun_last : (ps qs : List (List ℕ)) (k : ℕ) → length ps ≡ k + 1 →
    without_last ([] ∷ ps) ++ onto (last_part ([] ∷ ps)) qs ≡ [] ∷ (without_last ps ++ onto (last_part ps) qs)
begun_last [] qs k size = absurd (omega (arith, size))
begun_last (p ∷ ps) qs k size = refl

joined_last : (c : ℕ) (ps qs : List (List ℕ)) (k j : ℕ) → length ps ≡ k + 1 → length qs ≡ j + 1 →
    onto_first c (without_last ps ++ onto (last_part ps) qs) ≡ without_last (onto_first c ps) ++ onto (last_part (onto_first c ps)) qs
joined_last c [] qs k j size some = absurd (omega (arith, size))
joined_last c (p ∷ []) qs k j size some = onto_one c p qs j some
joined_last c (p ∷ q ∷ ps) qs k j size some = refl

-- a text cut where another follows it
split_joined : (a v : List ℕ) → pieces (a ++ v) ≡ without_last (pieces a) ++ onto (last_part (pieces a)) (pieces v)
split_joined [] v = onto_none (pieces v)
split_joined (c ∷ cs) v = elim (cases_Bool (c == 10)) [
  | inl is ↦ rw is (ap (λ (l : List (List ℕ)). [] ∷ l) (split_joined cs v)
      ∙ sym (begun_last (pieces cs) (pieces v) _ (length-slice_split (λ x. x == 10) cs)))
  | inr other ↦ rw other (ap (onto_first c) (split_joined cs v)
      ∙ joined_last c (pieces cs) (pieces v) _ _ (length-slice_split (λ x. x == 10) cs) (length-slice_split (λ x. x == 10) v))
]

-- what is behind the last newline has none
line_behind : (ps : List (List ℕ)) (k : ℕ) → length ps ≡ k + 1 → IsLine (last_part ps) → IsLine (last_part ([] ∷ ps))
line_behind [] k size so = absurd (omega (arith, size))
line_behind (p ∷ ps) k size so = so

line_onto : (c : ℕ) (ps : List (List ℕ)) → (c == 10) ≡ false → IsLine (last_part ps) → IsLine (last_part (onto_first c ps))
line_onto c [] other so = All-cons (λ (x : ℕ). (x == 10) ≡ false) c [] other (All-nil (λ (x : ℕ). (x == 10) ≡ false))
line_onto c (p ∷ []) other so = All-cons (λ (x : ℕ). (x == 10) ≡ false) c p other so
line_onto c (p ∷ q ∷ ps) other so = so

last_is_line : (text : List ℕ) → IsLine (last_part (pieces text))
last_is_line [] = All-nil (λ (x : ℕ). (x == 10) ≡ false)
last_is_line (c ∷ cs) = elim (cases_Bool (c == 10)) [
  | inl is ↦ rw is (line_behind (pieces cs) _ (length-slice_split (λ x. x == 10) cs) (last_is_line cs))
  | inr other ↦ rw other (line_onto c (pieces cs) other (last_is_line cs))
]

pub unfinished_line : (text : List ℕ) → IsLine (unfinished text)
unfolding unfinished
unfinished_line text = last_is_line text

ends_joined : (ls qs : List (List ℕ)) (k : ℕ) → length qs ≡ k + 1 → without_empty_end (ls ++ qs) ≡ ls ++ without_empty_end qs
ends_joined [] qs k size = refl
ends_joined (l ∷ ls) qs k size =
    not_empty_end l (ls ++ qs) (length ls + k) (omega (arith, size, length-append ls qs)) ∙ ap (λ (x : List (List ℕ)). l ∷ x) (ends_joined ls qs k size)

lasts_joined : (ls qs : List (List ℕ)) (k : ℕ) → length qs ≡ k + 1 → without_last (ls ++ qs) ≡ ls ++ without_last qs
lasts_joined [] qs k size = refl
lasts_joined (l ∷ ls) qs k size =
    not_last l (ls ++ qs) (length ls + k) (omega (arith, size, length-append ls qs)) ∙ ap (λ (x : List (List ℕ)). l ∷ x) (lasts_joined ls qs k size)

onto_size : (front : List ℕ) (ps : List (List ℕ)) → length (onto front ps) ≡ length ps
onto_size front [] = refl
onto_size front (p ∷ ps) = refl

-- the lines of a text that goes on are its whole lines, and those that begin behind its last newline
pub lines_on : (a v : List ℕ) → lines_of (a ++ v) ≡ whole_lines a ++ lines_of (unfinished a ++ v)
unfolding lines_of whole_lines unfinished
lines_on a v =
    let last : List ℕ = last_part (pieces a) in
    ap without_empty_end (split_joined a v)
    ∙ ends_joined (without_last (pieces a)) (onto last (pieces v)) _ (onto_size last (pieces v) ∙ length-slice_split (λ x. x == 10) v)
    ∙ ap (λ (l : List (List ℕ)). without_last (pieces a) ++ without_empty_end l) (sym (split_onto last v (last_is_line a)))

pub whole_on : (a v : List ℕ) → whole_lines (a ++ v) ≡ whole_lines a ++ whole_lines (unfinished a ++ v)
unfolding whole_lines unfinished
whole_on a v =
    let last : List ℕ = last_part (pieces a) in
    ap without_last (split_joined a v)
    ∙ lasts_joined (without_last (pieces a)) (onto last (pieces v)) _ (onto_size last (pieces v) ∙ length-slice_split (λ x. x == 10) v)
    ∙ ap (λ (l : List (List ℕ)). without_last (pieces a) ++ without_last l) (sym (split_onto last v (last_is_line a)))

-- the same where bytes with no newline stand between
pub lines_behind_part : (x a v : List ℕ) → IsLine a → 0 < length a →
    lines_of ((x ++ a) ++ v) ≡ whole_lines x ++ ((unfinished x ++ a) ++ first_of (pieces v)) ∷ later_of (pieces v)
lines_behind_part x a v none some =
    ap lines_of (append_assoc x a v) ∙ lines_on x (a ++ v)
    ∙ ap (λ (l : List (List ℕ)). whole_lines x ++ l)
    (ap lines_of (sym (append_assoc (unfinished x) a v))
    ∙ lines_onto (unfinished x ++ a) v (line_joined (unfinished x) a (unfinished_line x) none) (omega (arith, some, length-append (unfinished x) a)))

pub whole_behind_part : (x a v : List ℕ) → IsLine a → whole_lines ((x ++ a) ++ v) ≡ whole_lines x ++ onto (unfinished x ++ a) (whole_lines v)
whole_behind_part x a v none =
    ap whole_lines (append_assoc x a v) ∙ whole_on x (a ++ v)
    ∙ ap (λ (l : List (List ℕ)). whole_lines x ++ l)
    (ap whole_lines (sym (append_assoc (unfinished x) a v)) ∙ whole_onto (unfinished x ++ a) v (line_joined (unfinished x) a (unfinished_line x) none))

-- they make no line
pub whole_kept : (x a : List ℕ) → IsLine a → whole_lines (x ++ a) ≡ whole_lines x
whole_kept x a none =
    ap whole_lines (sym (append-nil (x ++ a))) ∙ whole_behind_part x a [] none
    ∙ ap (λ (l : List (List ℕ)). whole_lines x ++ onto (unfinished x ++ a) l) (whole_none [] (All-nil (λ (c : ℕ). (c == 10) ≡ false)))
    ∙ append-nil (whole_lines x)

-- all of a text with no newline is behind the last one
pub unfinished_all : (a : List ℕ) → IsLine a → unfinished a ≡ a
unfolding unfinished
unfinished_all a none = ap last_part (slice_split_none (λ c. c == 10) a none)

-- and what is behind it goes on where none follows
pub unfinished_part : (x a : List ℕ) → IsLine a → unfinished (x ++ a) ≡ unfinished x ++ a
unfolding unfinished
unfinished_part x a none =
    ap last_part (split_joined x a ∙ ap (λ (l : List (List ℕ)). without_last (pieces x) ++ onto (last_part (pieces x)) l) (slice_split_none (λ c. c == 10) a none))
    ∙ last_joined (without_last (pieces x)) (last_part (pieces x) ++ a)
  where
    last_joined : (ls : List (List ℕ)) (l : List ℕ) → last_part (ls ++ l ∷ []) ≡ l
    last_joined [] l = refl
    last_joined (m ∷ []) l = refl
    last_joined (m ∷ k ∷ ls) l = last_joined (k ∷ ls) l

pub unfinished_newline : (a : List ℕ) → unfinished (a ++ 10 ∷ []) ≡ []
unfolding unfinished
unfinished_newline a = ap last_part (split_joined a (10 ∷ [])) ∙ last_two (without_last (pieces a)) (last_part (pieces a) ++ [])
  where
    last_two : (ls : List (List ℕ)) (l : List ℕ) → last_part (ls ++ l ∷ [] ∷ []) ≡ []
    last_two [] l = refl
    last_two (m ∷ []) l = refl
    last_two (m ∷ k ∷ ls) l = last_two (k ∷ ls) l

-- nothing is behind the last newline of lines that stand at the front
pub unfinished_none : (ls : List (List ℕ)) (x : List ℕ) → Cuts false ls x [] → unfinished x ≡ []
unfinished_none ls x so =
    let nil : IsLine [] = All-nil (λ (c : ℕ). (c == 10) ≡ false) in
    let byte : List ℕ = 0 ∷ [] in
    let one : IsLine byte = All-cons (λ (c : ℕ). (c == 10) ≡ false) 0 [] refl nil in
    let whole : whole_lines x ≡ ls = rw (append-nil x, whole_none [] nil, append-nil ls) at (so.whole refl []) in
    let cut : lines_of (x ++ byte) ≡ ls ++ (byte ∷ []) = so.all byte tt ∙ ap (λ (l : List (List ℕ)). ls ++ l) (last_line 0 [] one) in
    let again : lines_of (x ++ byte) ≡ ls ++ ((unfinished x ++ byte) ++ []) ∷ [] =
    ap lines_of (sym (append-nil (x ++ byte))) ∙ lines_behind_part x byte [] one (omega arith)
    ∙ ap (λ (w : List (List ℕ)). w ++ ((unfinished x ++ byte) ++ []) ∷ []) whole in
    let same : ((unfinished x ++ byte) ++ []) ∷ [] ≡ byte ∷ [] =
    sym (drop-append_seam ls (((unfinished x ++ byte) ++ []) ∷ [])) ∙ ap (drop (length ls)) (sym again ∙ cut) ∙ drop-append_seam ls (byte ∷ []) in
    empty (unfinished x) (omega (
      arith,
      ap (λ (l : List (List ℕ)). length (first_of l)) same,
      length-append (unfinished x ++ byte) [],
      length-append (unfinished x) byte,
    ))
  where
    empty : (l : List ℕ) → length l ≡ 0 → l ≡ []
    empty [] none = refl
    empty (c ∷ cs) none = absurd (omega (arith, none))
