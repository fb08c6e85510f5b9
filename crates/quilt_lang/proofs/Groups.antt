-- Lines cut from the front of a text, and the items that they are.
use Rattle.std.proofs.Common.{◌≡◌, ◌≢◌, ℕ, zero, suc, ◌+◌, ◌-◌, ◌<◌, ◌≤◌, ◌==◌, ◌||◌, Bool, true, false, List, [], ◌∷◌, ◌++◌, length, take, drop, map, filter}
use Rattle.std.proofs.Common.{min, refl, sym, ◌∙◌, ap, subst, arith, append_assoc, append-nil, inl, inr, length-append, length-drop}
use Rattle.std.proofs.lemmas.List.{drop_all, take_all, drop-drop, take-append-drop, take-append-le, length-map, map-append}
use Rattle.std.proofs.lemmas.Bool.{eqb-true, eqb-false, eq-eqb, ne_eqb, cases_Bool}
use Rattle.quilt_lang.specs.declared.asked.Asked.{Asked}
use Rattle.quilt_words.specs.Items.{Group, asked, is_complete, is_silent, groups_from, items_of, lines_of, whole_items, whole_lines, words_of}
use Rattle.quilt_lang.specs.Reading.{Gives, HasNone, HasNewline, IsLine}
use Rattle.quilt_lang.specs.Cutting.{Cuts, CutsUpTo, HasNoLine, IsAsked, grouped, further_count}
use Rattle.quilt_lang.proofs.LineLaws.{groups_loud, lines_line, whole_line, whole_none, last_line, no_lines, silent_nothing}
use Rattle.quilt_lang.proofs.Pieces.{gives_of, drop_min}
use Rattle.quilt_words.proofs.Slices.{behind}

pub cuts_none : (e : Bool) (a : List ℕ) → Cuts e [] a a
cuts_none e a = record { all = λ v may. refl; whole = λ open_ v. refl }

pub cuts_then : (e : Bool) (ls ms : List (List ℕ)) (a b c : List ℕ) → Cuts e ls a b → Cuts e ms b c → Cuts e (ls ++ ms) a c
cuts_then e ls ms a b c first second = record {
  all = λ v may. first.all v may ∙ ap (λ (l : List (List ℕ)). ls ++ l) (second.all v may) ∙ sym (append_assoc ls ms (lines_of (c ++ v)));
  whole = λ open_ v. first.whole open_ v ∙ ap (λ (l : List (List ℕ)). ls ++ l) (second.whole open_ v) ∙ sym (append_assoc ls ms (whole_lines (c ++ v)));
}

-- lines that stand at the front, and whatever is behind them
pub fronts_then : (ls ms : List (List ℕ)) (a b : List ℕ) → Cuts false ls a [] → Cuts false ms b [] → Cuts false (ls ++ ms) (a ++ b) []
fronts_then ls ms a b first second = record {
  all = λ v may. ap lines_of (append_assoc a b v) ∙ first.all (b ++ v) tt ∙ ap (λ (l : List (List ℕ)). ls ++ l) (second.all v tt)
      ∙ sym (append_assoc ls ms (lines_of v));
  whole = λ open_ v. ap whole_lines (append_assoc a b v) ∙ first.whole refl (b ++ v) ∙ ap (λ (l : List (List ℕ)). ls ++ l) (second.whole refl v)
      ∙ sym (append_assoc ls ms (whole_lines v));
}

front_on : (ls : List (List ℕ)) (a u : List ℕ) → Cuts false ls a [] → Cuts false ls (a ++ u) u
front_on ls a u so = record {
  all = λ v may. ap lines_of (append_assoc a u v) ∙ so.all (u ++ v) tt;
  whole = λ open_ v. ap whole_lines (append_assoc a u v) ∙ so.whole refl (u ++ v);
}

pub front_cuts : (ls : List (List ℕ)) (m : ℕ) (text : List ℕ) → Cuts false ls (take m text) [] → Cuts false ls text (drop m text)
front_cuts ls m text so =
    subst (λ (t : List ℕ). Cuts false ls t (drop m text)) (take-append-drop m text) (front_on ls (take m text) (drop m text) so)

pub cuts_line : (e : Bool) (line u : List ℕ) → IsLine line → Cuts e (line ∷ []) (line ++ 10 ∷ u) u
cuts_line e line u none = record {
  all = λ v may. rw (append_assoc line (10 ∷ u) v) (lines_line line (u ++ v) none);
  whole = λ open_ v. rw (append_assoc line (10 ∷ u) v) (whole_line line (u ++ v) none);
}

-- a line with its newline
pub cuts_newline : (e : Bool) (text : List ℕ) (k : ℕ) → HasNewline text k → Cuts e (take k text ∷ []) text (drop (k + 1) text)
cuts_newline e text k at =
    let P : List ℕ → Type 0 = λ (t : List ℕ). Cuts e (take k text ∷ []) t (drop (k + 1) text) in
    subst P (sym at.is) (cuts_line e (take k text) (drop (k + 1) text) at.before)

only_line : (part : List ℕ) → IsLine part → 0 < length part → lines_of part ≡ part ∷ []
only_line [] none some = absurd (omega (arith, some))
only_line (c ∷ cs) none some = last_line c cs none

cuts_end : (part : List ℕ) → lines_of part ≡ part ∷ [] → Cuts true (part ∷ []) part []
cuts_end part is = record {
  all = λ v may. rw (may, append-nil part, no_lines) is;
  whole = λ open_ v. absurd (let bad : true ≡ false = open_ in cc);
}

-- the last line, where the input has ended
pub cuts_last : (e : Bool) (part : List ℕ) → e ≡ true → IsLine part → 0 < length part → Cuts e (take (length part) part ∷ []) part (drop (length part + 1) part)
cuts_last e part ended none some =
    rw (ended, take_all (length part) part (omega arith), drop_all (length part + 1) part (omega arith)) (cuts_end part (only_line part none some))

pub loud_some : (part : List ℕ) → is_silent part ≡ false → 0 < length part
loud_some [] loud = let e : true ≡ false = sym silent_nothing ∙ loud in absurd (cc)
loud_some (c ∷ cs) loud = omega arith

pub some_bytes : (part : List ℕ) → (length part == 0) ≡ false → 0 < length part
some_bytes part other = let no : length part ≢ 0 = eqb-false (length part) 0 other in omega (arith, no)

pub no_more : (e : Bool) (part : List ℕ) → (length part == 0) ≡ true → HasNoLine e part
no_more e [] is = nothing e
  where
    nothing : (e : Bool) → HasNoLine e []
    nothing true = no_lines
    nothing false = whole_none [] (λ j d below. absurd (omega (arith, below)))
no_more e (c ∷ cs) is = let no : suc (length cs) ≡ 0 = eqb-true (suc (length cs)) 0 is in absurd (omega (arith, no))

pub no_whole : (e : Bool) (part : List ℕ) → e ≡ false → IsLine part → HasNoLine e part
no_whole e part open_ none = rw open_ (whole_none part none)

-- lines that belong to the group before
groups_behind : (n : ℕ) (taken ls : List (List ℕ)) → groups_from n (length taken) (taken ++ ls) ≡ groups_from n 0 ls
groups_behind n [] ls = refl
groups_behind n (l ∷ taken) ls = groups_behind n taken ls

groups_past : (n k : ℕ) (taken : List (List ℕ)) → length taken ≤ k → groups_from n k taken ≡ []
groups_past n zero [] few = refl
groups_past n (suc k) [] few = refl
groups_past n zero (l ∷ taken) few = absurd (omega (arith, few))
groups_past n (suc k) (l ∷ taken) few = groups_past n k taken (omega (arith, few))

pub front_lines : (taken ls : List (List ℕ)) (k : ℕ) → length taken ≡ k → take k (taken ++ ls) ≡ taken
front_lines taken ls k size = take-append-le k taken ls (omega (arith, size)) ∙ take_all k taken (omega (arith, size))

-- the group of a line that all its further lines follow
group_full : (n : ℕ) (line : List ℕ) (taken ls : List (List ℕ)) → is_silent line ≡ false → length taken ≡ asked n line →
    groups_from n 0 (line ∷ taken ++ ls) ≡ grouped line taken ∷ groups_from n 0 ls
group_full n line taken ls loud full =
    groups_loud n line (taken ++ ls) loud
    ∙ ap (λ (m : List (List ℕ)). grouped line m ∷ groups_from n (asked n line) (taken ++ ls)) (front_lines taken ls (asked n line) full)
    ∙ ap (λ (gs : List Group). grouped line taken ∷ gs) (ap (λ (k : ℕ). groups_from n k (taken ++ ls)) (sym full) ∙ groups_behind n taken ls)

-- and of one that no line follows but fewer than it asks for
group_short : (n : ℕ) (line : List ℕ) (taken : List (List ℕ)) → is_silent line ≡ false → length taken ≤ asked n line →
    groups_from n 0 (line ∷ taken) ≡ grouped line taken ∷ []
group_short n line taken loud few =
    groups_loud n line taken loud
    ∙ ap (λ (m : List (List ℕ)). grouped line m ∷ groups_from n (asked n line) taken) (take_all (asked n line) taken few)
    ∙ ap (λ (gs : List Group). grouped line taken ∷ gs) (groups_past n (asked n line) taken few)

items_full : (n : ℕ) (line : List ℕ) (taken : List (List ℕ)) (text rest : List ℕ) → is_silent line ≡ false → length taken ≡ asked n line →
    lines_of text ≡ (line ∷ taken) ++ lines_of rest → items_of n text ≡ grouped line taken ∷ items_of n rest
unfolding items_of
items_full n line taken text rest loud full is = ap (groups_from n 0) is ∙ group_full n line taken (lines_of rest) loud full

items_short : (n : ℕ) (line : List ℕ) (taken : List (List ℕ)) (text rest : List ℕ) → is_silent line ≡ false → length taken ≤ asked n line →
    lines_of text ≡ (line ∷ taken) ++ lines_of rest → lines_of rest ≡ [] → items_of n text ≡ grouped line taken ∷ items_of n rest
unfolding items_of
items_short n line taken text rest loud few is none =
    ap (groups_from n 0) (is ∙ ap (λ (l : List (List ℕ)). (line ∷ taken) ++ l) none ∙ append-nil (line ∷ taken)) ∙ group_short n line taken loud few
    ∙ ap (λ (l : List (List ℕ)). grouped line taken ∷ groups_from n 0 l) (sym none)

complete_full : (n : ℕ) (line : List ℕ) (taken : List (List ℕ)) (gs : List Group) → length taken ≡ asked n line →
    filter (is_complete n) (grouped line taken ∷ gs) ≡ grouped line taken ∷ filter (is_complete n) gs
complete_full n line taken gs full = rw (eq-eqb (length taken) (asked n line) full) refl

complete_short : (n : ℕ) (line : List ℕ) (taken : List (List ℕ)) → length taken < asked n line → filter (is_complete n) (grouped line taken ∷ []) ≡ []
complete_short n line taken few = rw (ne_eqb (length taken) (asked n line) (λ e. omega (arith, e, few))) refl

whole_full : (n : ℕ) (line : List ℕ) (taken : List (List ℕ)) (text rest : List ℕ) → is_silent line ≡ false → length taken ≡ asked n line →
    whole_lines text ≡ (line ∷ taken) ++ whole_lines rest → whole_items n text ≡ grouped line taken ∷ whole_items n rest
unfolding whole_items
whole_full n line taken text rest loud full is =
    ap (λ (ls : List (List ℕ)). filter (is_complete n) (groups_from n 0 ls)) is
    ∙ ap (filter (is_complete n)) (group_full n line taken (whole_lines rest) loud full)
    ∙ complete_full n line taken (groups_from n 0 (whole_lines rest)) full

whole_short : (n : ℕ) (line : List ℕ) (taken : List (List ℕ)) (text : List ℕ) → is_silent line ≡ false → length taken < asked n line →
    whole_lines text ≡ line ∷ taken → whole_items n text ≡ []
unfolding whole_items
whole_short n line taken text loud few is =
    ap (λ (ls : List (List ℕ)). filter (is_complete n) (groups_from n 0 ls)) is
    ∙ ap (filter (is_complete n)) (group_short n line taken loud (omega (arith, few)))
    ∙ complete_short n line taken few

-- the item of a line that all its further lines follow
gives_full : (e : Bool) (n : ℕ) (line : List ℕ) (taken : List (List ℕ)) (a b : List ℕ) → is_silent line ≡ false → length taken ≡ asked n line
    → Cuts e (line ∷ taken) a b →
    Gives e n (grouped line taken ∷ []) a b
gives_full e n line taken a b loud full cuts =
    gives_of e n (grouped line taken ∷ []) a b
    (λ v may. items_full n line taken (a ++ v) (b ++ v) loud full (cuts.all v may))
    (λ open_ v. whole_full n line taken (a ++ v) (b ++ v) loud full (cuts.whole open_ v))

-- and where the input has ended with fewer
gives_short : (n : ℕ) (line : List ℕ) (taken : List (List ℕ)) (a b : List ℕ) → is_silent line ≡ false → length taken ≤ asked n line → lines_of b ≡ [] →
    Cuts true (line ∷ taken) a b → Gives true n (grouped line taken ∷ []) a b
gives_short n line taken a b loud few none cuts =
    gives_of true n (grouped line taken ∷ []) a b
    (λ v may. let Q : List ℕ → Type 0 = λ (u : List ℕ). lines_of u ≡ [] in
    items_short n line taken (a ++ v) (b ++ v) loud few (cuts.all v may) (subst Q (sym (ap (λ (u : List ℕ). b ++ u) may ∙ append-nil b)) none))
    (λ open_ v. absurd (let bad : true ≡ false = open_ in cc))

-- a line, and the lines behind it
both_cuts : (e : Bool) (count : ℕ) (text line behind new : List ℕ) (taken : List (List ℕ)) → Cuts e (line ∷ []) text behind
    → CutsUpTo e count taken behind new →
    Cuts e (line ∷ taken) text new
both_cuts e count text line behind new taken first more = cuts_then e (line ∷ []) taken text behind new first more.cuts

met : (e : Bool) (n k : ℕ) (line : List ℕ) (taken : List (List ℕ)) (text behind new : List ℕ) → is_silent line ≡ false → asked n line ≡ k
    → Cuts e (line ∷ []) text behind →
    CutsUpTo e k taken behind new → (e || (length taken == k)) ≡ true → Gives e n (grouped line taken ∷ []) text new
met false n k line taken text behind new loud number first more is =
    gives_full false n line taken text new loud (eqb-true (length taken) k is ∙ sym number) (both_cuts false k text line behind new taken first more)
met true n k line taken text behind new loud number first more is = elim (cases_Bool (length taken == k)) [
  | inl full ↦ gives_full true n line taken text new loud (eqb-true (length taken) k full ∙ sym number) (both_cuts true k text line behind new taken first more)
  | inr short ↦
      let few : length taken < k = omega (arith, more.few, eqb-false (length taken) k short) in
      gives_short n line taken text new loud (omega (arith, few, number)) (more.stops few) (both_cuts true k text line behind new taken first more)
]

-- the item at the front of a text
pub front_gives : (e : Bool) (n : ℕ) (what : Asked) (line text behind new : List ℕ) (taken : List (List ℕ)) → is_silent line ≡ false
    → Cuts e (line ∷ []) text behind →
    IsAsked n (asked n line) (words_of line) what → CutsUpTo e (further_count n what) taken behind new → (e || (length taken == further_count n what)) ≡ true →
    Gives e n (grouped line taken ∷ []) text new
front_gives e n what line text behind new taken loud first asks more is =
    met e n (further_count n what) line taken text behind new loud asks.number first more is

-- and where it waits for further lines
pub front_none : (e : Bool) (n : ℕ) (what : Asked) (line text behind new : List ℕ) (taken : List (List ℕ)) → is_silent line ≡ false
    → Cuts e (line ∷ []) text behind →
    IsAsked n (asked n line) (words_of line) what → CutsUpTo e (further_count n what) taken behind new
    → (e || (length taken == further_count n what)) ≡ false → HasNone e n text
front_none true n what line text behind new taken loud first asks more is = absurd (let bad : true ≡ false = is in cc)
front_none false n what line text behind new taken loud first asks more is =
    let few : length taken < further_count n what = omega (arith, more.few, eqb-false (length taken) (further_count n what) is) in
    let cuts : Cuts false (line ∷ taken) text new = both_cuts false (further_count n what) text line behind new taken first more in
    let lines : whole_lines text ≡ (line ∷ taken) ++ whole_lines new = rw (append-nil text, append-nil new) at (cuts.whole refl []) in
    whole_short n line taken text loud (omega (arith, few, asks.number)) (lines ∙ ap (λ (l : List (List ℕ)). (line ∷ taken) ++ l) (more.stops few)
    ∙ append-nil (line ∷ taken))

-- so far these lines are cut
pub record CutSoFar (e : Bool) (count len : ℕ) (lines : List (List ℕ)) (text : List ℕ) : Type 0 where
  pub within : len ≤ length text
  pub few : length lines ≤ count
  pub cuts : Cuts e lines text (drop len text)

pub so_far_first : (e : Bool) (count : ℕ) (text : List ℕ) → CutSoFar e count 0 [] text
so_far_first e count text = record { within = omega arith; few = omega arith; cuts = cuts_none e text }

-- with one more, where fewer than all are cut
so_far_more : (e : Bool) (count len k m new : ℕ) (lines more : List (List ℕ)) (text rest : List ℕ) → CutSoFar e count len lines text
    → (length lines == count) ≡ false →
    rest ≡ drop len text → Cuts e (take k rest ∷ []) rest (drop (k + 1) rest) → m ≡ min (length rest) (k + 1) → new ≡ len + m
    → more ≡ lines ++ take k rest ∷ [] → new ≤ length text →
    CutSoFar e count new more text
so_far_more e count len k m new lines more text rest so other same cut least sum put within =
    let next : drop new text ≡ drop (k + 1) rest =
    ap (λ (x : ℕ). drop x text) sum ∙ sym (drop-drop m len text) ∙ ap (drop m) (sym same) ∙ ap (λ (x : ℕ). drop x rest) least ∙ drop_min (k + 1) rest in
    let P : List ℕ → Type 0 = λ (t : List ℕ). Cuts e (take k rest ∷ []) t (drop new text) in
    let Q : List ℕ → Type 0 = λ (t : List ℕ). Cuts e (take k rest ∷ []) rest t in
    record {
      within = within;
      few = rw put (omega (arith, so.few, eqb-false (length lines) count other, length-append lines (take k rest ∷ [])));
      cuts = rw put (cuts_then e lines (take k rest ∷ []) text (drop len text) (drop new text) so.cuts (subst P same (subst Q (sym next) cut)));
    }

pub so_far_put : {X : Type 0} (g : X → List ℕ) (e : Bool) (count size len k m : ℕ) (xs ys : List X) (x : X) (text rest : List ℕ)
    → CutSoFar e count len (map g xs) text →
    (size == count) ≡ false → size ≡ length xs → rest ≡ drop len text → Cuts e (take k rest ∷ []) rest (drop (k + 1) rest)
    → m ≡ min (length rest) (k + 1) → ys ≡ xs ++ x ∷ [] →
    g x ≡ take k rest → CutSoFar e count (len + m) (map g ys) text
so_far_put g e count size len k m xs ys x text rest so other many same cut least put is =
    let left : length rest ≡ length text - len = ap length same ∙ length-drop len text in
    so_far_more e count len k m (len + m) (map g xs) (map g ys) text rest so
    (ap (λ (s : ℕ). s == count) (length-map xs g ∙ sym many) ∙ other) same cut least refl
    (ap (map g) put ∙ map-append g xs (x ∷ []) ∙ ap (λ (l : List ℕ). map g xs ++ l ∷ []) is)
    (omega (arith, left, least, so.within))

pub so_far_smaller : (text rest : List ℕ) (len k m : ℕ) → rest ≡ drop len text → 0 < length rest → m ≡ min (length rest) (k + 1)
    → length text - (len + m) < length text - len
so_far_smaller text rest len k m same some least =
    let left : length rest ≡ length text - len = ap length same ∙ length-drop len text in
    omega (arith, left, some, least)

pub so_far_all : {X : Type 0} (g : X → List ℕ) (e : Bool) (count size len : ℕ) (xs : List X) (text : List ℕ) → CutSoFar e count len (map g xs) text
    → (size == count) ≡ true → size ≡ length xs →
    CutsUpTo e count (map g xs) text (drop len text)
so_far_all g e count size len xs text so all many = record {
  cuts = so.cuts;
  few = so.few;
  stops = λ few. absurd (omega (arith, few, length-map xs g, many, eqb-true size count all));
}

pub so_far_end : (e : Bool) (count len : ℕ) (lines : List (List ℕ)) (text rest : List ℕ) → CutSoFar e count len lines text
    → rest ≡ drop len text → HasNoLine e rest →
    CutsUpTo e count lines text (drop len text)
so_far_end e count len lines text rest so same none = record {
  cuts = so.cuts;
  few = so.few;
  stops = λ few. let P : List ℕ → Type 0 = λ (t : List ℕ). HasNoLine e t in subst P same none;
}

-- what stands behind a line
pub from_behind : (text : List ℕ) (k m : ℕ) → m ≡ min (length text) (k + 1) → take (length text - m) (drop m text) ≡ drop (k + 1) text
from_behind text k m least = behind m text ∙ ap (λ (x : ℕ). drop x text) least ∙ drop_min (k + 1) text

-- the lines behind it
pub lines_behind : (e : Bool) (count : ℕ) (taken : List (List ℕ)) (text : List ℕ) (k m len : ℕ) → m ≡ min (length text) (k + 1) →
    CutsUpTo e count taken (take (length text - m) (drop m text)) (drop len (take (length text - m) (drop m text)))
    → CutsUpTo e count taken (drop (k + 1) text) (drop (m + len) text)
lines_behind e count taken text k m len least is =
    let P : List ℕ → Type 0 = λ (u : List ℕ). CutsUpTo e count taken u (drop (m + len) text) in
    let Q : List ℕ → Type 0 = λ (u : List ℕ). CutsUpTo e count taken (take (length text - m) (drop m text)) u in
    subst P (from_behind text k m least) (subst Q (ap (drop len) (behind m text) ∙ drop-drop len m text) is)
