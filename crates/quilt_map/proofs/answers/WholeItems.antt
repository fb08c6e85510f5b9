-- The whole items of a text are the first of those of every longer text.
use Rattle.std.proofs.Common.{◌≡◌, inl, inr, ℕ, zero, suc, ◌+◌, ◌≤◌, Bool, true, false, cond, List, [], ◌∷◌, ◌++◌, length, take, filter, ◌==◌, refl, sym, ◌∙◌, ap, arith}
use Rattle.std.specs.List.{slice_split, onto_first}
use Rattle.std.proofs.lemmas.Bool.{cases_lt, eq-eqb, ne_eqb}
use Rattle.std.proofs.lemmas.List.{take-append-le, length-take}
use Rattle.std.proofs.lemmas.List.Splits.{length-slice_split}
use Rattle.quilt_words.specs.Items.{Group, is_silent, asked, is_complete, groups_from, without_empty_end, without_last, lines_of, whole_lines, items_of, whole_items}

-- ---- lines

-- these pieces, and then others, of which there is one
pub record GoesOn (front whole : List (List ℕ)) : Type 0 where
  pub next : List ℕ
  pub behind : List (List ℕ)
  pub is : whole ≡ front ++ next ∷ behind

some_piece : (pieces : List (List ℕ)) (k : ℕ) → length pieces ≡ k + 1 → GoesOn [] pieces
some_piece [] k size = absurd (omega arith)
some_piece (l ∷ ls) k size = record { next = l; behind = ls; is = refl }

-- with one byte more before them
byte_before : (b : Bool) (c k : ℕ) (pieces longer : List (List ℕ)) → length pieces ≡ k + 1 → GoesOn (without_last pieces) longer
    → GoesOn (without_last (cond b ([] ∷ pieces) (onto_first c pieces))) (cond b ([] ∷ longer) (onto_first c longer))
byte_before b c k [] longer size so = absurd (omega arith)
byte_before true c k (l ∷ ls) longer size so = record { next = so.next; behind = so.behind; is = ap (λ (t : List (List ℕ)). [] ∷ t) so.is }
byte_before false c k (l ∷ []) longer size so = record { next = c ∷ so.next; behind = so.behind; is = ap (onto_first c) so.is }
byte_before false c k (l ∷ m ∷ ls) longer size so = record { next = so.next; behind = so.behind; is = ap (onto_first c) so.is }

pieces_front : (p : ℕ → Bool) (u v : List ℕ) → GoesOn (without_last (slice_split p u)) (slice_split p (u ++ v))
pieces_front p [] v = some_piece (slice_split p v) _ (length-slice_split p v)
pieces_front p (c ∷ u) v = byte_before (p c) c _ (slice_split p u) (slice_split p (u ++ v)) (length-slice_split p u) (pieces_front p u v)

ends_behind : (front : List (List ℕ)) (l : List ℕ) (ls : List (List ℕ)) → without_empty_end (front ++ l ∷ ls) ≡ front ++ without_empty_end (l ∷ ls)
ends_behind [] l ls = refl
ends_behind (f ∷ []) l ls = refl
ends_behind (f ∷ g ∷ front) l ls = ap (λ (t : List (List ℕ)). f ∷ t) (ends_behind (g ∷ front) l ls)

lines_front : (u v : List ℕ) → (others : List (List ℕ)) × (lines_of (u ++ v) ≡ whole_lines u ++ others)
unfolding lines_of whole_lines
lines_front u v =
    let so = pieces_front (λ c. c == 10) u v in
    (without_empty_end (so.next ∷ so.behind), ap without_empty_end so.is ∙ ends_behind (without_last (slice_split (λ c. c == 10) u)) so.next so.behind)

-- ---- items

-- lines that all belong to the group before
none_left : (n k : ℕ) (ls : List (List ℕ)) → length ls ≤ k → groups_from n k ls ≡ []
none_left n zero [] few = refl
none_left n (suc k) [] few = refl
none_left n zero (l ∷ ls) few = absurd (omega arith)
none_left n (suc k) (l ∷ ls) few = none_left n k ls (omega arith)

-- these groups, and then others
abbrev FirstOf : List Group → List Group → Type 0
FirstOf front whole = (others : List Group) × (whole ≡ front ++ others)

abbrev group : List ℕ → List (List ℕ) → Group
group l more = record { line = l; more = more }

-- a line that begins an item, with its further lines
loud_next : (n : ℕ) (l : List ℕ) (ls others : List (List ℕ))
    → FirstOf (filter (is_complete n) (groups_from n (asked n l) ls)) (groups_from n (asked n l) (ls ++ others))
    → FirstOf (filter (is_complete n) (group l (take (asked n l) ls) ∷ groups_from n (asked n l) ls))
    (group l (take (asked n l) (ls ++ others)) ∷ groups_from n (asked n l) (ls ++ others))
loud_next n l ls others so = elim (cases_lt (length ls) (asked n l)) [
  | inl few ↦
      let a = asked n l in
      let part : is_complete n (group l (take a ls)) ≡ false = ne_eqb (length (take a ls)) a (λ is. let e = length-take a ls in omega arith) in
      let none : groups_from n a ls ≡ [] = none_left n a ls (omega arith) in (
        group l (take a (ls ++ others)) ∷ groups_from n a (ls ++ others),
        ap (λ (b : Bool). cond b (group l (take a ls) ∷ []) [] ++ (group l (take a (ls ++ others)) ∷ groups_from n a (ls ++ others))) (sym part)
            ∙ ap (λ (gs : List Group). filter (is_complete n) (group l (take a ls) ∷ gs) ++ (group l (take a (ls ++ others)) ∷ groups_from n a (ls ++ others))) (sym none),
      )
  | inr enough ↦
      let a = asked n l in
      let all : is_complete n (group l (take a ls)) ≡ true = eq-eqb (length (take a ls)) a (let e = length-take a ls in omega arith) in (
        so.0,
        ap (λ (more : List (List ℕ)). group l more ∷ groups_from n a (ls ++ others)) (take-append-le a ls others enough)
            ∙ ap (λ (gs : List Group). group l (take a ls) ∷ gs) so.1
            ∙ ap (λ (b : Bool). cond b (group l (take a ls) ∷ filter (is_complete n) (groups_from n a ls)) (filter (is_complete n) (groups_from n a ls)) ++ so.0) (sym all),
      )
]

line_next : (b : Bool) (n : ℕ) (l : List ℕ) (ls others : List (List ℕ)) → FirstOf (filter (is_complete n) (groups_from n 0 ls)) (groups_from n 0 (ls ++ others))
    → FirstOf (filter (is_complete n) (groups_from n (asked n l) ls)) (groups_from n (asked n l) (ls ++ others))
    → FirstOf (filter (is_complete n) (cond b (groups_from n 0 ls) (group l (take (asked n l) ls) ∷ groups_from n (asked n l) ls)))
    (cond b (groups_from n 0 (ls ++ others)) (group l (take (asked n l) (ls ++ others)) ∷ groups_from n (asked n l) (ls ++ others)))
line_next true n l ls others silent loud = silent
line_next false n l ls others silent loud = loud_next n l ls others loud

groups_front : (n k : ℕ) (ls others : List (List ℕ)) → FirstOf (filter (is_complete n) (groups_from n k ls)) (groups_from n k (ls ++ others))
groups_front n zero [] others = (groups_from n 0 others, refl)
groups_front n (suc k) [] others = (groups_from n (suc k) others, refl)
groups_front n (suc k) (l ∷ ls) others = groups_front n k ls others
groups_front n zero (l ∷ ls) others =
    line_next (is_silent l) n l ls others (groups_front n 0 ls others) (groups_front n (asked n l) ls others)

pub whole_front : (n : ℕ) (u v : List ℕ) → FirstOf (whole_items n u) (items_of n (u ++ v))
unfolding items_of whole_items
whole_front n u v =
    let lines = lines_front u v in
    let so = groups_front n 0 (whole_lines u) lines.0 in
    (so.0, ap (groups_from n 0) lines.1 ∙ so.1)
