-- The lines and items of a text that begins with a whole line.
use Rattle.std.proofs.Common.{◌≡◌, ℕ, ◌+◌, Bool, true, false, ◌==◌, ◌||◌, not, List, [], ◌∷◌, ◌++◌, length, take, filter, refl, ◌∙◌, ap, arith, cond}
use Rattle.std.specs.List.{slice_split, list_all}
use Rattle.std.proofs.lemmas.List.Splits.{slice_split_at, slice_split_none, length-slice_split}
use Rattle.quilt_words.specs.Items.{Group, is_long, is_plain, is_silent, asked, asked_by, is_complete, lines_of, without_empty_end, without_last, whole_lines}
use Rattle.quilt_words.specs.Items.{groups_from, items_of, whole_items, words_of}
use Rattle.quilt_lang.specs.Reading.{IsLine, alone, begins_silent, first_is_silent}
use Rattle.quilt_lang.specs.Cutting.{grouped}

-- a list of parts is not empty
pub not_empty_end : (l : List ℕ) (ps : List (List ℕ)) (k : ℕ) → length ps ≡ k + 1 → without_empty_end (l ∷ ps) ≡ l ∷ without_empty_end ps
not_empty_end l [] k size = absurd (omega (arith, size))
not_empty_end l (p ∷ ps) k size = refl

pub not_last : (l : List ℕ) (ps : List (List ℕ)) (k : ℕ) → length ps ≡ k + 1 → without_last (l ∷ ps) ≡ l ∷ without_last ps
not_last l [] k size = absurd (omega (arith, size))
not_last l (p ∷ ps) k size = refl

pub lines_line : (l v : List ℕ) → IsLine l → lines_of (l ++ 10 ∷ v) ≡ l ∷ lines_of v
unfolding lines_of
lines_line l v none =
    ap without_empty_end (slice_split_at (λ c. c == 10) l 10 v none refl)
    ∙ not_empty_end l (slice_split (λ c. c == 10) v) _ (length-slice_split (λ c. c == 10) v)

pub whole_line : (l v : List ℕ) → IsLine l → whole_lines (l ++ 10 ∷ v) ≡ l ∷ whole_lines v
unfolding whole_lines
whole_line l v none =
    ap without_last (slice_split_at (λ c. c == 10) l 10 v none refl)
    ∙ not_last l (slice_split (λ c. c == 10) v) _ (length-slice_split (λ c. c == 10) v)

pub whole_none : (l : List ℕ) → IsLine l → whole_lines l ≡ []
unfolding whole_lines
whole_none l none = ap without_last (slice_split_none (λ c. c == 10) l none)

pub last_line : (c : ℕ) (cs : List ℕ) → IsLine (c ∷ cs) → lines_of (c ∷ cs) ≡ (c ∷ cs) ∷ []
unfolding lines_of
last_line c cs none = ap without_empty_end (slice_split_none (λ c. c == 10) (c ∷ cs) none)

pub no_lines : lines_of [] ≡ []
unfolding lines_of
no_lines = refl

-- a line that is too long asks for none
pub asked_long : (n : ℕ) (line : List ℕ) → is_long line ≡ true → asked n line ≡ 0
asked_long n line long = ap (λ (b : Bool). cond {A = ℕ} (b || not (list_all is_plain line)) 0 (asked_by n (words_of line))) long

take_none : (ls : List (List ℕ)) → take 0 ls ≡ []
take_none [] = refl
take_none (l ∷ ls) = refl

groups_silent : (n : ℕ) (line : List ℕ) (ls : List (List ℕ)) → is_silent line ≡ true → groups_from n 0 (line ∷ ls) ≡ groups_from n 0 ls
groups_silent n line ls silent = rw silent refl

pub groups_loud : (n : ℕ) (line : List ℕ) (ls : List (List ℕ)) → is_silent line ≡ false →
    groups_from n 0 (line ∷ ls) ≡ grouped line (take (asked n line) ls) ∷ groups_from n (asked n line) ls
groups_loud n line ls loud = rw loud refl

pub groups_alone : (n : ℕ) (line : List ℕ) (ls : List (List ℕ)) → is_silent line ≡ false → asked n line ≡ 0 →
    groups_from n 0 (line ∷ ls) ≡ alone line ∷ groups_from n 0 ls
groups_alone n line ls loud none =
    groups_loud n line ls loud ∙ ap (λ (k : ℕ). grouped line (take k ls) ∷ groups_from n k ls) none
    ∙ ap (λ (m : List (List ℕ)). grouped line m ∷ groups_from n 0 ls) (take_none ls)

-- the laws of reading a line that begins no item
pub silent_next : (n : ℕ) (line v : List ℕ) → IsLine line → is_silent line ≡ true → items_of n (line ++ 10 ∷ v) ≡ items_of n v
unfolding items_of
silent_next n line v none silent = rw (lines_line line v none) ((groups_silent n line (lines_of v) silent))

pub complete_first : (n : ℕ) (line : List ℕ) (is : List Group) → asked n line ≡ 0
    → filter (is_complete n) (alone line ∷ is) ≡ alone line ∷ filter (is_complete n) is
complete_first n line is none = rw none refl

pub whole_silent_next : (n : ℕ) (line v : List ℕ) → IsLine line → is_silent line ≡ true → whole_items n (line ++ 10 ∷ v) ≡ whole_items n v
unfolding whole_items
whole_silent_next n line v none silent =
    rw (whole_line line v none) (ap (filter (is_complete n)) (groups_silent n line (whole_lines v) silent))

pub whole_part : (n : ℕ) (part : List ℕ) → IsLine part → whole_items n part ≡ []
unfolding whole_items
whole_part n part last = rw (whole_none part last) refl

-- what is left at the end, with no newline: a line that begins no item, or one that does
pub last_silent : (n : ℕ) (part : List ℕ) → IsLine part → is_silent part ≡ true → items_of n part ≡ []
unfolding items_of
last_silent n [] none silent = rw no_lines refl
last_silent n (c ∷ cs) none silent = rw (last_line c cs none) ((groups_silent n (c ∷ cs) [] silent))

pub silent_nothing : is_silent [] ≡ true
unfolding words_of
silent_nothing = refl

-- the first whole line
pub begins_line : (line v : List ℕ) → IsLine line → begins_silent (line ++ 10 ∷ v) ≡ is_silent line
begins_line line v none = ap first_is_silent (whole_line line v none)

pub begins_none : (part : List ℕ) → IsLine part → begins_silent part ≡ false
begins_none part none = ap first_is_silent (whole_none part none)

pub begins_nothing : begins_silent [] ≡ false
unfolding whole_lines
begins_nothing = refl
