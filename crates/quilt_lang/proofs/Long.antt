-- A line that is too long may be cut short, since only that it is too long is held.
use Rattle.std.proofs.Common.{◌≡◌, inl, inr, ℕ, ◌+◌, ◌<◌, Bool, true, false, ◌==◌, nat_lt, List, [], ◌∷◌, ◌++◌, length, take, map, cond, subst, refl}
use Rattle.std.proofs.Common.{sym, ◌∙◌, ap, arith, length-append, length-take, filter}
use Rattle.std.specs.List.{slice_split, onto_first}
use Rattle.std.proofs.lemmas.List.Splits.{length-slice_split}
use Rattle.std.proofs.lemmas.List.Elements.{All-head, All-tail}
use Rattle.std.proofs.lemmas.Bool.{lt-ltb, ltb-true, ltb-false, cases_Bool}
use Rattle.std.proofs.lemmas.List.{get_or-take, take_all}
use Rattle.quilt_words.specs.declared.item.Item.{Item}
use Rattle.quilt_words.specs.declared.item.Item.TheVariants.{Long}
use Rattle.quilt_words.specs.Items.{Group, line_limit, is_long, is_silent, lines_of, whole_lines, without_empty_end, without_last, groups_from, items_of}
use Rattle.quilt_words.specs.Items.{whole_items, held, held_as, asked, is_complete}
use Rattle.quilt_lang.specs.Reading.{Unread, IsLine, Gives, Same, alone}
use Rattle.quilt_lang.proofs.Pieces.{same_by, gives_none, gives_then, gives_fed}
use Rattle.quilt_lang.proofs.LineLaws.{asked_long, groups_alone, complete_first}

-- onto the first part go the bytes before
abbrev pub onto : List ℕ → List (List ℕ) → List (List ℕ)
onto front [] = []
onto front (l ∷ ls) = (front ++ l) ∷ ls

abbrev pub pieces : List ℕ → List (List ℕ)
pieces t = slice_split (λ c. c == 10) t

pub onto_one : (c : ℕ) (cs : List ℕ) (ps : List (List ℕ)) (k : ℕ) → length ps ≡ k + 1 → onto_first c (onto cs ps) ≡ onto (c ∷ cs) ps
onto_one c cs [] k size = absurd (omega (arith, size))
onto_one c cs (l ∷ ls) k size = refl

pub onto_none : (ps : List (List ℕ)) → ps ≡ onto [] ps
onto_none [] = refl
onto_none (l ∷ ls) = refl

-- a front with no newline goes onto the first piece
pub split_onto : (front v : List ℕ) → IsLine front → pieces (front ++ v) ≡ onto front (pieces v)
split_onto [] v none = onto_none (pieces v)
split_onto (c ∷ cs) v none =
    let inner : (c == 10) ≡ false = All-head (λ (x : ℕ). (x == 10) ≡ false) c cs none in
    rw inner (ap (onto_first c) (split_onto cs v (All-tail (λ (x : ℕ). (x == 10) ≡ false) c cs none))
    ∙ onto_one c cs (pieces v) _ (length-slice_split (λ x. x == 10) v))

-- what follows up to the first newline, and the lines behind it
abbrev pub first_of : List (List ℕ) → List ℕ
first_of [] = []
first_of (l ∷ ls) = l

abbrev pub later_of : List (List ℕ) → List (List ℕ)
later_of [] = []
later_of (l ∷ []) = []
later_of (l ∷ m ∷ ls) = without_empty_end (m ∷ ls)

ends_onto : (front : List ℕ) (ps : List (List ℕ)) (k : ℕ) → 0 < length front → length ps ≡ k + 1
    → without_empty_end (onto front ps) ≡ (front ++ first_of ps) ∷ later_of ps
ends_onto front [] k some size = absurd (omega (arith, size))
ends_onto [] (l ∷ ls) k some size = absurd (omega (arith, some))
ends_onto (c ∷ cs) (l ∷ []) k some size = refl
ends_onto (c ∷ cs) (l ∷ m ∷ ls) k some size = refl

pub lines_onto : (front v : List ℕ) → IsLine front → 0 < length front → lines_of (front ++ v) ≡ (front ++ first_of (pieces v)) ∷ later_of (pieces v)
unfolding lines_of
lines_onto front v none some =
    ap without_empty_end (split_onto front v none) ∙ ends_onto front (pieces v) _ some (length-slice_split (λ x. x == 10) v)

long_onto : (front v : List ℕ) → line_limit < length front → is_long (front ++ v) ≡ true
long_onto front v long = lt-ltb line_limit (length (front ++ v)) (omega (arith, long, length-append front v))

long_loud : (line : List ℕ) → is_long line ≡ true → is_silent line ≡ false
long_loud line long = rw long refl

pub long_item : (f n : ℕ) (group : Group) → is_long group.line ≡ true → held f n group ≡ Long
unfolding held
long_item f n group long = rw long refl

pub short_item : (f n : ℕ) (group : Group) → is_long group.line ≡ false → held f n group ≡ held_as f n (asked n group.line) group
unfolding held
short_item f n group short = ap (λ (b : Bool). cond b Long (held_as f n (asked n group.line) group)) short

-- two lines that are too long hold the same
same_long : (n : ℕ) (a b : List ℕ) (gs hs : List Group) → is_long a ≡ true → is_long b ≡ true → Same n gs hs → Same n (alone a ∷ gs) (alone b ∷ hs)
same_long n a b gs hs long_a long_b so = λ f low.
    ap (λ (i : Item). i ∷ map (held f n) gs) (long_item f n (alone a) long_a ∙ sym (long_item f n (alone b) long_b))
    ∙ ap (λ (is : List Item). held f n (alone b) ∷ is) (so f low)

groups_long : (n : ℕ) (line : List ℕ) (ls : List (List ℕ)) → is_long line ≡ true → groups_from n 0 (line ∷ ls) ≡ alone line ∷ groups_from n 0 ls
groups_long n line ls long = groups_alone n line ls (long_loud line long) (asked_long n line long)

items_onto : (n : ℕ) (front v : List ℕ) → IsLine front → line_limit < length front →
    items_of n (front ++ v) ≡ alone (front ++ first_of (pieces v)) ∷ groups_from n 0 (later_of (pieces v))
unfolding items_of
items_onto n front v none long =
    rw (lines_onto front v none (omega (arith, long)))
    (groups_long n (front ++ first_of (pieces v)) (later_of (pieces v)) (long_onto front (first_of (pieces v)) long))

items_same : (n : ℕ) (a b v : List ℕ) → IsLine a → IsLine b → line_limit < length a → line_limit < length b → Same n (items_of n (a ++ v)) (items_of n (b ++ v))
items_same n a b v is_a is_b long_a long_b =
    let later : List Group = groups_from n 0 (later_of (pieces v)) in
    same_by n _ _ _ _ (items_onto n a v is_a long_a) (items_onto n b v is_b long_b)
    (same_long n (a ++ first_of (pieces v)) (b ++ first_of (pieces v)) later later (long_onto a (first_of (pieces v)) long_a)
    (long_onto b (first_of (pieces v)) long_b) (λ f low. refl))

-- the whole lines, where a front goes onto the first
lasts_onto : (front : List ℕ) (ps : List (List ℕ)) → without_last (onto front ps) ≡ onto front (without_last ps)
lasts_onto front [] = refl
lasts_onto front (l ∷ []) = refl
lasts_onto front (l ∷ m ∷ ls) = refl

pub whole_onto : (front v : List ℕ) → IsLine front → whole_lines (front ++ v) ≡ onto front (whole_lines v)
unfolding whole_lines
whole_onto front v none = ap without_last (split_onto front v none) ∙ lasts_onto front (pieces v)

abbrev whole_from : ℕ → List (List ℕ) → List Group
whole_from n ls = filter (is_complete n) (groups_from n 0 ls)

whole_long : (n : ℕ) (line : List ℕ) (ls : List (List ℕ)) → is_long line ≡ true → whole_from n (line ∷ ls) ≡ alone line ∷ whole_from n ls
whole_long n line ls long = ap (filter (is_complete n)) (groups_long n line ls long) ∙ complete_first n line (groups_from n 0 ls) (asked_long n line long)

whole_swap : (n : ℕ) (a b : List ℕ) (ls : List (List ℕ)) → line_limit < length a → line_limit < length b
    → Same n (whole_from n (onto a ls)) (whole_from n (onto b ls))
whole_swap n a b [] long_a long_b = λ f low. refl
whole_swap n a b (l ∷ ls) long_a long_b =
    same_by n _ _ _ _ (whole_long n (a ++ l) ls (long_onto a l long_a)) (whole_long n (b ++ l) ls (long_onto b l long_b))
    (same_long n (a ++ l) (b ++ l) (whole_from n ls) (whole_from n ls) (long_onto a l long_a) (long_onto b l long_b) (λ f low. refl))

whole_same : (n : ℕ) (a b v : List ℕ) → IsLine a → IsLine b → line_limit < length a → line_limit < length b
    → Same n (whole_items n (a ++ v)) (whole_items n (b ++ v))
unfolding whole_items
whole_same n a b v is_a is_b long_a long_b =
    rw (whole_onto a v is_a, whole_onto b v is_b) (whole_swap n a b (whole_lines v) long_a long_b)

pub line_front : (m : ℕ) (text : List ℕ) → IsLine text → IsLine (take m text)
line_front m text none = λ j d below. let less : j < m = omega (arith, below, length-take m text) in
    rw (get_or-take m text j d less) (none j d (omega (arith, below, length-take m text)))

-- of a line that is too long any other such may be kept
pub gives_long : (n : ℕ) (a b : List ℕ) → IsLine a → IsLine b → line_limit < length a → line_limit < length b → Gives false n [] a b
gives_long n a b is_a is_b long_a long_b = record {
  all = λ v may. items_same n a b v is_a is_b long_a long_b;
  whole = λ open_ v. whole_same n a b v is_a is_b long_a long_b;
}

-- of a text with no newline so much may be kept
pub gives_kept : (n m : ℕ) (text : List ℕ) → IsLine text → (m < length text → line_limit < m) → Gives false n [] text (take m text)
gives_kept n m text none enough = elim (cases_Bool (nat_lt m (length text))) [
  | inl long ↦
      let past : m < length text = ltb-true m (length text) long in
      let over : line_limit < m = enough past in
      gives_long n text (take m text) none (line_front m text none) (omega (arith, past, over)) (omega (arith, past, over, length-take m text))
  | inr short ↦ rw (take_all m text (ltb-false m (length text) short)) (gives_none false n text)
]

-- a piece behind what is kept of a rest
pub fed : (n m : ℕ) (old joined piece : List ℕ) → Gives false n [] old (take m old) → joined ≡ take m old ++ piece → Gives false n [] (old ++ piece) joined
fed n m old joined piece keeps all =
    let Q : List ℕ → Type 0 = λ (l : List ℕ). Gives false n [] (old ++ piece) l in
    subst Q (sym all) (gives_fed n [] old (take m old) piece keeps)

-- and of that the lines that begin no item are let go
pub fed_on : (s : Unread) (old joined piece new : List ℕ) → old ≡ s.rest → Gives false s.level [] (old ++ piece) joined
    → ((n : ℕ) → Gives false n [] joined new) →
    Gives false s.level [] (s.rest ++ piece) new
fed_on s old joined piece new rest first read =
    let P : List ℕ → Type 0 = λ (l : List ℕ). Gives false s.level [] (l ++ piece) new in
    subst P rest (gives_then false s.level [] [] (old ++ piece) joined new first (read s.level))
