-- A further line that is too long may be cut short, since of it only that it is too long is held.
use Rattle.std.proofs.Common.{◌≡◌, ℕ, zero, suc, ◌+◌, ◌-◌, ◌*◌, ◌<◌, ◌≤◌, ◌==◌, nat_le, Bool, true, false, List, [], ◌∷◌, ◌++◌, length, take, map}
use Rattle.std.proofs.Common.{filter, Option, Some, None, option_map, option_and_then, cond, refl, sym, ◌∙◌, ap, arith, length-append, inl, inr}
use Rattle.std.proofs.lemmas.Bool.{lt-ltb, lt-leb, ne_eqb, cases_Bool}
use Rattle.std.proofs.Math.Nat.{mul-le-mul_right}
use Rattle.quilt_types.specs.Plane.{side}
use Rattle.quilt_words.specs.declared.item.Item.{Item}
use Rattle.quilt_words.specs.declared.item.Item.TheVariants.{Rows, PointLines, RingLines}
use Rattle.quilt_words.specs.Items.{Group, asked, groups_from, held, is_complete, is_long, is_silent, items_of, line_limit, point_of, points_joined}
use Rattle.quilt_words.specs.Items.{colour_bytes, ring_of, rings_joined, rows_joined, whole_items, whole_lines, words_of}
use Rattle.quilt_lang.specs.declared.asked.Asked.{Asked}
use Rattle.quilt_lang.specs.declared.asked.Asked.TheVariants as kinds
use Rattle.quilt_words.specs.Spelling.{row}
use Rattle.quilt_lang.specs.Reading.{Gives, IsLine, Same, point_limit, row_limit, unfinished}
use Rattle.quilt_lang.specs.Cutting.{IsAsked, grouped, holding, limit_of, further_count}
use Rattle.quilt_lang.proofs.LineLaws.{groups_loud}
use Rattle.quilt_lang.proofs.Long.{first_of, later_of, long_item, onto, pieces}
use Rattle.quilt_lang.proofs.Asking.{holds}
use Rattle.quilt_lang.proofs.Unfinished.{lines_behind_part, whole_behind_part}

-- the first of so many lines, where one stands among them
take_past : (k j : ℕ) (ms : List (List ℕ)) (l : List ℕ) (rest : List (List ℕ)) → k ≡ length ms + j + 1 → take k (ms ++ l ∷ rest) ≡ ms ++ l ∷ take j rest
take_past zero j ms l rest is = absurd (omega (arith, is))
take_past (suc k) j [] l rest is = let same : k ≡ j = omega (arith, is) in ap (λ (i : ℕ). l ∷ take i rest) same
take_past (suc k) j (m ∷ ms) l rest is = ap (λ (x : List (List ℕ)). m ∷ x) (take_past k j ms l rest (omega (arith, is)))

groups_past : (n k j : ℕ) (ms : List (List ℕ)) (l : List ℕ) (rest : List (List ℕ)) → k ≡ length ms + j + 1
    → groups_from n k (ms ++ l ∷ rest) ≡ groups_from n j rest
groups_past n zero j ms l rest is = absurd (omega (arith, is))
groups_past n (suc k) j [] l rest is = let same : k ≡ j = omega (arith, is) in ap (λ (i : ℕ). groups_from n i rest) same
groups_past n (suc k) j (m ∷ ms) l rest is = groups_past n k j ms l rest (omega (arith, is))

-- one list line that is too long, and there are no points
none_behind : {X : Type 0} (b : Bool) (o : Option X) → cond b (option_and_then (λ p. option_map (λ ps. p ∷ ps) None) o) None ≡ None
none_behind true None = refl
none_behind true (Some p) = refl
none_behind false o = refl

points_none : (ms : List (List ℕ)) (l : List ℕ) (rest : List (List ℕ)) → point_limit < length l → points_joined (ms ++ l ∷ rest) ≡ None
points_none [] l rest long = let over : nat_le (length l) 64 ≡ false = lt-leb (length l) 64 long in rw over refl
points_none (m ∷ ms) l rest long = rw (points_none ms l rest long) (none_behind (nat_le (length m) 64) (point_of (words_of m)))

-- and one ring line, and there are no rings
none_after : {X : Type 0} (o : Option X) → option_and_then (λ p. option_map (λ ps. p ∷ ps) None) o ≡ None
none_after None = refl
none_after (Some p) = refl

rings_none : (ms : List (List ℕ)) (l : List ℕ) (rest : List (List ℕ)) → line_limit < length l → rings_joined (ms ++ l ∷ rest) ≡ None
rings_none [] l rest long = let over : is_long l ≡ true = lt-ltb line_limit (length l) long in rw over refl
rings_none (m ∷ ms) l rest long = rw (rings_none ms l rest long) (none_after (ring_of m))

none_either : {X : Type 0} (b : Bool) (o : Option X) → o ≡ None → cond b o None ≡ None
none_either true o none = none
none_either false o none = refl

-- and one row, in a format up to 2, and there are no colours
none_joined : {X : Type 0} (g : X → X → X) (o : Option X) → option_and_then (λ b. option_map (λ r. g b r) None) o ≡ None
none_joined g None = refl
none_joined g (Some b) = refl

joined_none : (f width : ℕ) (ms : List (List ℕ)) (l : List ℕ) (rest : List (List ℕ)) → f ≤ 2 → 4 * width < length l
    → rows_joined f width (ms ++ l ∷ rest) ≡ None
joined_none f width [] l rest low long =
    let most : 2 * f * width ≤ 4 * width = mul-le-mul_right width (omega (arith, low)) in
    let other : (length l == 2 * f * width) ≡ false = ne_eqb (length l) (2 * f * width) (λ e. omega (arith, e, most, long)) in
    rw other refl
joined_none f width (m ∷ ms) l rest low long =
    rw (joined_none f width ms l rest low long)
    (none_either (length m == 2 * f * width) (option_and_then (λ b. option_map (λ r. colour_bytes f b ++ r) None) (row m))
    (none_joined (λ b r. colour_bytes f b ++ r) (row m)))

row_most : (n lim : ℕ) → row_limit n ≡ Some lim → 4 * side n ≡ lim
row_most n lim is = elim (cases_Bool (nat_le n 16)) [
  | inl few ↦ let same : Some (4 * side n) ≡ Some lim = rw few at is in cc
  | inr many ↦ absurd (let bad : None ≡ Some lim = rw many at is in cc)
]

-- what is held where one of the lines is too long
holding_long : (f n lim : ℕ) (line : List ℕ) (ms : List (List ℕ)) (l m : List ℕ) (rest : List (List ℕ)) (what : Asked) → f ≤ 2 → limit_of n what ≡ Some lim
    → lim < length l → lim < length m → holding f n line (ms ++ l ∷ rest) what ≡ holding f n line (ms ++ m ∷ rest) what
holding_long f n lim line ms l m rest kinds.Nothing low is long_l long_m = refl
holding_long f n lim line ms l m rest kinds.Rows low is long_l long_m =
    let most : 4 * side n ≡ lim = row_most n lim is in
    ap (λ o. Rows line o)
    (none_either (length (ms ++ l ∷ rest) == side n) (rows_joined f (side n) (ms ++ l ∷ rest))
    (joined_none f (side n) ms l rest low (omega (arith, most, long_l)))
    ∙ sym (none_either (length (ms ++ m ∷ rest) == side n) (rows_joined f (side n) (ms ++ m ∷ rest))
    (joined_none f (side n) ms m rest low (omega (arith, most, long_m)))))
holding_long f n lim line ms l m rest (kinds.Points k) low is long_l long_m =
    let same : Some point_limit ≡ Some lim = is in
    let lim_is : point_limit ≡ lim = cc in
    ap (λ o. PointLines line o)
    (none_either (length (ms ++ l ∷ rest) == k) (points_joined (ms ++ l ∷ rest)) (points_none ms l rest (omega (arith, lim_is, long_l)))
    ∙ sym (none_either (length (ms ++ m ∷ rest) == k) (points_joined (ms ++ m ∷ rest)) (points_none ms m rest (omega (arith, lim_is, long_m)))))
holding_long f n lim line ms l m rest (kinds.Rings k) low is long_l long_m =
    let same : Some line_limit ≡ Some lim = is in
    let lim_is : line_limit ≡ lim = cc in
    ap (λ o. RingLines line o)
    (none_either (length (ms ++ l ∷ rest) == k) (rings_joined (ms ++ l ∷ rest)) (rings_none ms l rest (omega (arith, lim_is, long_l)))
    ∙ sym (none_either (length (ms ++ m ∷ rest) == k) (rings_joined (ms ++ m ∷ rest)) (rings_none ms m rest (omega (arith, lim_is, long_m)))))

held_long : (f n lim : ℕ) (line : List ℕ) (ms : List (List ℕ)) (l m : List ℕ) (rest : List (List ℕ)) (what : Asked) → f ≤ 2 → limit_of n what ≡ Some lim
    → IsAsked n (asked n line) (words_of line) what → lim < length l → lim < length m
    → held f n (grouped line (ms ++ l ∷ rest)) ≡ held f n (grouped line (ms ++ m ∷ rest))
held_long f n lim line ms l m rest what low is asks long_l long_m = elim (cases_Bool (is_long line)) [
  | inl long ↦ long_item f n (grouped line (ms ++ l ∷ rest)) long ∙ sym (long_item f n (grouped line (ms ++ m ∷ rest)) long)
  | inr short ↦
      sym (holds f n line (ms ++ l ∷ rest) what (holding f n line (ms ++ l ∷ rest) what) short asks refl)
      ∙ holding_long f n lim line ms l m rest what low is long_l long_m
      ∙ holds f n line (ms ++ m ∷ rest) what (holding f n line (ms ++ m ∷ rest) what) short asks refl
]

-- The first line begins an item that asks for further lines of at most so many bytes, and for more than stand there.
pub record Wants (n lim : ℕ) (text : List ℕ) : Type 0 where
  pub line : List ℕ
  pub more : List (List ℕ)
  pub what : Asked
  pub lines : whole_lines text ≡ line ∷ more
  pub loud : is_silent line ≡ false
  pub asks : IsAsked n (asked n line) (words_of line) what
  pub few : length more < further_count n what
  pub limit : limit_of n what ≡ Some lim

module _ (n lim : ℕ) (line : List ℕ) (more : List (List ℕ)) (what : Asked) (loud : is_silent line ≡ false)
    (asks : IsAsked n (asked n line) (words_of line) what) (few : length more < further_count n what) (limit : limit_of n what ≡ Some lim)
    (l m : List ℕ) (long_l : lim < length l) (long_m : lim < length m) where
  -- how many are wanted behind it
  abbrev left : ℕ
  left = asked n line - length more - 1

  wanted : asked n line ≡ length more + left + 1
  wanted = omega (arith, few, asks.number)

  group_long : (a : List ℕ) (rest : List (List ℕ)) →
      groups_from n 0 (line ∷ (more ++ a ∷ rest)) ≡ grouped line (more ++ a ∷ take left rest) ∷ groups_from n left rest
  group_long a rest =
      groups_loud n line (more ++ a ∷ rest) loud
      ∙ ap (λ (x : List (List ℕ)). grouped line x ∷ groups_from n (asked n line) (more ++ a ∷ rest)) (take_past (asked n line) left more a rest wanted)
      ∙ ap (λ (gs : List Group). grouped line (more ++ a ∷ take left rest) ∷ gs) (groups_past n (asked n line) left more a rest wanted)

  held_same : (f : ℕ) (rest : List (List ℕ)) → f ≤ 2 → held f n (grouped line (more ++ l ∷ take left rest)) ≡ held f n (grouped line (more ++ m ∷ take left rest))
  held_same f rest low = held_long f n lim line more l m (take left rest) what low limit asks long_l long_m

  groups_same : (rest : List (List ℕ)) → Same n (groups_from n 0 (line ∷ (more ++ l ∷ rest))) (groups_from n 0 (line ∷ (more ++ m ∷ rest)))
  groups_same rest = λ f low.
      ap (map (held f n)) (group_long l rest) ∙ ap (λ (i : Item). i ∷ map (held f n) (groups_from n left rest)) (held_same f rest low)
      ∙ sym (ap (map (held f n)) (group_long m rest))

  -- of them the whole ones
  as_many : (rest : List (List ℕ)) → length (more ++ l ∷ take left rest) ≡ length (more ++ m ∷ take left rest)
  as_many rest = length-append more (l ∷ take left rest) ∙ sym (length-append more (m ∷ take left rest))

  whole_same : (rest : List (List ℕ)) →
      Same n (filter (is_complete n) (groups_from n 0 (line ∷ (more ++ l ∷ rest)))) (filter (is_complete n) (groups_from n 0 (line ∷ (more ++ m ∷ rest))))
  whole_same rest = λ f low.
      ap (λ (gs : List Group). map (held f n) (filter (is_complete n) gs)) (group_long l rest)
      ∙ either (length (more ++ l ∷ take left rest) == asked n line) (length (more ++ m ∷ take left rest) == asked n line)
      (grouped line (more ++ l ∷ take left rest)) (grouped line (more ++ m ∷ take left rest)) (filter (is_complete n) (groups_from n left rest))
      f (ap (λ (k : ℕ). k == asked n line) (as_many rest)) (held_same f rest low)
      ∙ sym (ap (λ (gs : List Group). map (held f n) (filter (is_complete n) gs)) (group_long m rest))
    where
      either : (a b : Bool) (g h : Group) (gs : List Group) (f : ℕ) → a ≡ b → held f n g ≡ held f n h
          → map (held f n) (cond a (g ∷ gs) gs) ≡ map (held f n) (cond b (h ∷ gs) gs)
      either true true g h gs f is so = ap (λ (i : Item). i ∷ map (held f n) gs) so
      either false false g h gs f is so = refl
      either true false g h gs f is so = absurd (cc)
      either false true g h gs f is so = absurd (cc)

-- Of bytes with no newline that are too long for a further line, any others that are may be kept.
long_items : (n lim : ℕ) (x a b v : List ℕ) → Wants n lim x → IsLine a → IsLine b → lim < length a → lim < length b
    → Same n (items_of n ((x ++ a) ++ v)) (items_of n ((x ++ b) ++ v))
unfolding items_of
long_items n lim x a b v so is_a is_b long_a long_b =
    let tail_a : List ℕ = (unfinished x ++ a) ++ first_of (pieces v) in
    let tail_b : List ℕ = (unfinished x ++ b) ++ first_of (pieces v) in
    let over_a : lim < length tail_a = omega (arith, long_a, length-append (unfinished x ++ a) (first_of (pieces v)), length-append (unfinished x) a) in
    let over_b : lim < length tail_b = omega (arith, long_b, length-append (unfinished x ++ b) (first_of (pieces v)), length-append (unfinished x) b) in
    rw (lines_behind_part x a v is_a (omega (arith, long_a)), lines_behind_part x b v is_b (omega (arith, long_b)), so.lines)
    (groups_same n lim so.line so.more so.what so.loud so.asks so.few so.limit tail_a tail_b over_a over_b (later_of (pieces v)))

swapped : (n lim : ℕ) (x a b : List ℕ) (ls : List (List ℕ)) → Wants n lim x → lim < length a → lim < length b →
    Same n (filter (is_complete n) (groups_from n 0 (whole_lines x ++ onto (unfinished x ++ a) ls)))
    (filter (is_complete n) (groups_from n 0 (whole_lines x ++ onto (unfinished x ++ b) ls)))
swapped n lim x a b [] so long_a long_b = λ f low. refl
swapped n lim x a b (l ∷ ls) so long_a long_b =
    let tail_a : List ℕ = (unfinished x ++ a) ++ l in
    let tail_b : List ℕ = (unfinished x ++ b) ++ l in
    let over_a : lim < length tail_a = omega (arith, long_a, length-append (unfinished x ++ a) l, length-append (unfinished x) a) in
    let over_b : lim < length tail_b = omega (arith, long_b, length-append (unfinished x ++ b) l, length-append (unfinished x) b) in
    rw so.lines (whole_same n lim so.line so.more so.what so.loud so.asks so.few so.limit tail_a tail_b over_a over_b ls)

long_whole : (n lim : ℕ) (x a b v : List ℕ) → Wants n lim x → IsLine a → IsLine b → lim < length a → lim < length b
    → Same n (whole_items n ((x ++ a) ++ v)) (whole_items n ((x ++ b) ++ v))
unfolding whole_items
long_whole n lim x a b v so is_a is_b long_a long_b =
    rw (whole_behind_part x a v is_a, whole_behind_part x b v is_b) (swapped n lim x a b (whole_lines v) so long_a long_b)

pub gives_cut : (n lim : ℕ) (x a b : List ℕ) → Wants n lim x → IsLine a → IsLine b → lim < length a → lim < length b → Gives false n [] (x ++ a) (x ++ b)
gives_cut n lim x a b so is_a is_b long_a long_b = record {
  all = λ v may. long_items n lim x a b v so is_a is_b long_a long_b;
  whole = λ open_ v. long_whole n lim x a b v so is_a is_b long_a long_b;
}
