-- Lines counted as they come, and bytes that are known to have no newline.
use Rattle.std.proofs.Common.{◌≡◌, ℕ, ◌+◌, ◌-◌, ◌<◌, ◌≤◌, ◌==◌, ◌||◌, Bool, true, false, List, [], ◌∷◌, ◌++◌, length, take, drop, min, refl, sym, ◌∙◌, ap}
use Rattle.std.proofs.Common.{subst, arith, append_assoc, append-nil, inl, inr, length-append, length-drop, length-take}
use Rattle.std.proofs.lemmas.List.{take_all, drop-drop, take-append-le, take-append-drop, length-take-le}
use Rattle.std.proofs.lemmas.List.Elements.{All-append, All-take}
use Rattle.std.proofs.Math.Seq.{take-add, drop-append_seam}
use Rattle.std.proofs.lemmas.Bool.{eqb-true, eqb-false, cases_Bool}
use Rattle.quilt_lang.specs.declared.asked.Asked.{Asked}
use Rattle.quilt_lang.specs.declared.progress.CutLines.{CutLines}
use Rattle.quilt_words.specs.Items.{asked, is_silent, whole_lines, words_of}
use Rattle.quilt_lang.specs.Reading.{HasNewline, HasNone, IsLine}
use Rattle.quilt_lang.specs.Cutting.{Cuts, CutsUpTo, IsAsked, further_count}
use Rattle.quilt_lang.specs.Progress.{IsCount, IsFrontLine, IsUncut, IsWaiting}
use Rattle.quilt_lang.proofs.LineLaws.{whole_none}
use Rattle.quilt_lang.proofs.Groups.{cuts_line, cuts_none, fronts_then, front_cuts, front_none}

-- bytes with no newline at the front
pub uncut_first : (text : List ℕ) → IsUncut 0 text
uncut_first text = record { within = omega arith; none = λ j d below. absurd (omega (arith, below, length-take 0 text)) }

pub uncut_all : (text : List ℕ) → IsLine text → IsUncut (length text) text
uncut_all text none = record { within = omega arith; none = rw (take_all (length text) text (omega arith)) none }

pub uncut_at : (text : List ℕ) (k : ℕ) → HasNewline text k → IsUncut k text
uncut_at text k at = record { within = omega (arith, at.within); none = at.before }

pub line_as : (a b : List ℕ) → a ≡ b → IsLine a → IsLine b
line_as a b same none = subst (λ (l : List ℕ). IsLine l) same none

pub line_joined : (a b : List ℕ) → IsLine a → IsLine b → IsLine (a ++ b)
line_joined a b first second = All-append (λ (c : ℕ). (c == 10) ≡ false) a b first second

-- no newline in all the bytes, and the first one behind those that have none
pub cut_none : (text rest : List ℕ) (scanned : ℕ) → IsUncut scanned text → rest ≡ drop scanned text → IsLine rest → IsLine text
cut_none text rest scanned so same none =
    line_as (take scanned text ++ drop scanned text) text (take-append-drop scanned text)
    (line_joined (take scanned text) (drop scanned text) so.none (line_as rest (drop scanned text) same none))

newline_drop : (rest : List ℕ) (k : ℕ) → HasNewline rest k → drop k rest ≡ 10 ∷ drop (k + 1) rest
newline_drop rest k at =
    let front : List ℕ = take k rest in
    let behind : List ℕ = 10 ∷ drop (k + 1) rest in
    let size : length front ≡ k = length-take-le k rest (omega (arith, at.within)) in
    ap (drop k) at.is ∙ ap (λ (m : ℕ). drop m (front ++ behind)) (sym size) ∙ drop-append_seam front behind

pub cut_some : (text rest : List ℕ) (scanned k : ℕ) → IsUncut scanned text → rest ≡ drop scanned text → HasNewline rest k → HasNewline text (scanned + k)
cut_some text rest scanned k so same at =
    let left : length rest ≡ length text - scanned = ap length same ∙ length-drop scanned text in
    let front : take (scanned + k) text ≡ take scanned text ++ take k rest =
    take-add scanned k text ∙ ap (λ (l : List ℕ). take scanned text ++ take k l) (sym same) in
    let back : drop (scanned + k) text ≡ 10 ∷ drop (scanned + k + 1) text =
    sym (drop-drop k scanned text) ∙ ap (drop k) (sym same) ∙ newline_drop rest k at ∙ ap (λ (l : List ℕ). 10 ∷ drop (k + 1) l) same
    ∙ ap (λ (l : List ℕ). 10 ∷ l) (drop-drop (k + 1) scanned text ∙ ap (λ (m : ℕ). drop m text) (omega arith)) in
    record {
      within = omega (arith, left, at.within, so.within);
      before =
          line_as (take scanned text ++ take k rest) (take (scanned + k) text) (sym front) (line_joined (take scanned text) (take k rest) so.none at.before);
      is = sym (take-append-drop (scanned + k) text) ∙ ap (λ (l : List ℕ). take (scanned + k) text ++ l) back;
    }

-- with a piece behind them
pub uncut_grown : (scanned : ℕ) (text piece : List ℕ) → IsUncut scanned text → IsUncut scanned (text ++ piece)
uncut_grown scanned text piece so = record {
  within = omega (arith, so.within, length-append text piece);
  none = line_as (take scanned text) (take scanned (text ++ piece)) (sym (take-append-le scanned text piece so.within)) so.none;
}

pub take_less : (k m : ℕ) (text : List ℕ) → k ≤ m → k ≤ length text → take k (take m text) ≡ take k text
take_less k m text less within =
    let sum : k + (m - k) ≡ m = omega (arith, less) in
    let size : length (take k text) ≡ k = length-take-le k text within in
    ap (take k) (ap (λ (x : ℕ). take x text) (sym sum) ∙ take-add k (m - k) text)
    ∙ take-append-le k (take k text) (take (m - k) (drop k text)) (omega (arith, size))
    ∙ take_all k (take k text) (omega (arith, size))

pub uncut_kept : (scanned kept known : ℕ) (rest bytes piece : List ℕ) → IsUncut scanned rest → kept ≤ length rest → known ≡ min scanned kept
    → bytes ≡ take kept rest ++ piece → IsUncut known bytes
uncut_kept scanned kept known rest bytes piece so within least put =
    let low : known ≤ length rest = omega (arith, least, within) in
    let same : take known (take scanned rest) ≡ take known (take kept rest) =
    take_less known scanned rest (omega (arith, least)) low ∙ sym (take_less known kept rest (omega (arith, least)) low) in
    let none : IsLine (take known (take scanned rest)) = All-take (λ (c : ℕ). (c == 10) ≡ false) known (take scanned rest) so.none in
    let P : List ℕ → Type 0 = λ (b : List ℕ). IsUncut known b in
    subst P (sym put) (uncut_grown known (take kept rest) piece (record {
      within = omega (arith, least, length-take-le kept rest within);
      none = line_as (take known (take scanned rest)) (take known (take kept rest)) same none;
    }))

-- a text whose first line is cut
pub first_whole : (n line : ℕ) (what : Asked) (text : List ℕ) → IsFrontLine false n line what text
    → whole_lines text ≡ take line text ∷ whole_lines (drop (line + 1) text)
first_whole n line what text so = rw (append-nil text, append-nil (drop (line + 1) text)) at (so.cuts.whole refl [])

-- lines counted one after another
pub count_first : (most : ℕ) (text : List ℕ) → IsCount most (record { count = 0; len = 0; scanned = 0 }) text
count_first most text = record {
  within = omega arith;
  lines = [];
  number = refl;
  few = omega arith;
  short = omega arith;
  cuts = subst (λ (t : List ℕ). Cuts false [] t []) (sym (take_nothing text)) (cuts_none false []);
  behind = uncut_first text;
}
  where
    take_nothing : (t : List ℕ) → take 0 t ≡ []
    take_nothing [] = refl
    take_nothing (c ∷ cs) = refl

-- with the next newline
pub newline_front : (rest : List ℕ) (k : ℕ) → HasNewline rest k → take (k + 1) rest ≡ take k rest ++ 10 ∷ []
newline_front rest k at =
    take-add k 1 rest ∙ ap (λ (l : List ℕ). take k rest ++ take 1 l) (newline_drop rest k at) ∙ ap (λ (l : List ℕ). take k rest ++ 10 ∷ l) (take_zero (drop (k + 1) rest))
  where
    take_zero : (t : List ℕ) → take 0 t ≡ []
    take_zero [] = refl
    take_zero (c ∷ cs) = refl

pub front_newline : (rest : List ℕ) (k : ℕ) → HasNewline rest k → Cuts false (take k rest ∷ []) (take (k + 1) rest) []
front_newline rest k at = subst (λ (t : List ℕ). Cuts false (take k rest ∷ []) t []) (sym (newline_front rest k at)) (cuts_line false (take k rest) [] at.before)

pub count_next : (most k : ℕ) (cut : CutLines) (text rest : List ℕ) → IsCount most cut text → (cut.count == most) ≡ false
    → rest ≡ drop cut.len text → HasNewline rest k →
    IsCount most (record { count = cut.count + 1; len = cut.len + k + 1; scanned = 0 }) text
count_next most k cut text rest so other same at =
    let new = cut.len + k + 1 in
    let left : length rest ≡ length text - cut.len = ap length same ∙ length-drop cut.len text in
    let sum : new ≡ cut.len + (k + 1) = omega arith in
    let front : take new text ≡ take cut.len text ++ take (k + 1) rest =
    ap (λ (m : ℕ). take m text) sum ∙ take-add cut.len (k + 1) text ∙ ap (λ (l : List ℕ). take cut.len text ++ take (k + 1) l) (sym same) in
    record {
      within = omega (arith, left, so.within, at.within);
      lines = so.lines ++ take k rest ∷ [];
      number = omega (arith, so.number, length-append so.lines (take k rest ∷ []));
      few = omega (arith, so.few, eqb-false cut.count most other);
      short = omega (arith, so.short);
      cuts = subst (λ (t : List ℕ). Cuts false (so.lines ++ take k rest ∷ []) t []) (sym front)
          (fronts_then so.lines (take k rest ∷ []) (take cut.len text) (take (k + 1) rest) so.cuts (front_newline rest k at));
      behind = uncut_first (drop new text);
    }

pub count_stops : (len : ℕ) (text rest : List ℕ) → rest ≡ drop len text → IsLine rest → whole_lines (drop len text) ≡ []
count_stops len text rest same none = ap whole_lines (sym same) ∙ whole_none rest none

-- so many whole lines stand there
pub count_there : (most : ℕ) (cut : CutLines) (text : List ℕ) → IsCount most cut text → (cut.count == most) ≡ true → most ≤ length (whole_lines text)
count_there most cut text so all =
    let cuts : Cuts false so.lines text (drop cut.len text) = front_cuts so.lines cut.len text so.cuts in
    let lines : whole_lines text ≡ so.lines ++ whole_lines (drop cut.len text) =
    rw (append-nil text, append-nil (drop cut.len text)) at (cuts.whole refl []) in
    omega (arith, ap length lines, length-append so.lines (whole_lines (drop cut.len text)), so.number, eqb-true cut.count most all)

-- and then as many are cut, or the input has ended
pub lines_there : (e : Bool) (count : ℕ) (taken : List (List ℕ)) (text new : List ℕ) → CutsUpTo e count taken text new
    → (e ≡ false → count ≤ length (whole_lines text)) →
    (e || (length taken == count)) ≡ true
lines_there true count taken text new more there = refl
lines_there false count taken text new more there = elim (cases_Bool (length taken == count)) [
  | inl is ↦ is
  | inr short ↦
      let few : length taken < count = omega (arith, more.few, eqb-false (length taken) count short) in
      let lines : whole_lines text ≡ taken ++ whole_lines new = rw (append-nil text, append-nil new) at (more.cuts.whole refl []) in
      let none : whole_lines new ≡ [] = more.stops few in
      absurd (omega (arith, few, there refl, ap length lines, length-append taken (whole_lines new), ap length none))
]

-- and where there are fewer, the item waits
pub count_waits : (n line : ℕ) (what : Asked) (cut : CutLines) (text : List ℕ) → IsFrontLine false n line what text
    → IsCount (further_count n what) cut (drop (line + 1) text) →
    (cut.count == further_count n what) ≡ false → (cut.count < further_count n what → whole_lines (drop cut.len (drop (line + 1) text)) ≡ []) → HasNone false n text
count_waits n line what cut text first so other stops =
    let behind : List ℕ = drop (line + 1) text in
    front_none false n what (take line text) text behind (drop cut.len behind) so.lines first.loud first.cuts first.asks
    (record {
      cuts = front_cuts so.lines cut.len behind so.cuts;
      few = omega (arith, so.few, so.number);
      stops = λ few. stops (omega (arith, few, so.number));
    })
    (ap (λ (m : ℕ). m == further_count n what) so.number ∙ other)

-- what is cut so far of a text whose front is kept, whatever is put behind it
kept_front : (k m : ℕ) (text u : List ℕ) → k ≤ m → m ≤ length text → take k (take m text ++ u) ≡ take k text
kept_front k m text u less within =
    take-append-le k (take m text) u (omega (arith, less, length-take-le m text within)) ∙ take_less k m text less (omega (arith, less, within))

kept_behind : (k m : ℕ) (text u : List ℕ) → k ≤ m → m ≤ length text → drop k (take m text ++ u) ≡ take (m - k) (drop k text) ++ u
kept_behind k m text u less within =
    let front : List ℕ = take k text in
    let more : List ℕ = take (m - k) (drop k text) in
    let sum : k + (m - k) ≡ m = omega (arith, less) in
    let all : take m text ≡ front ++ more = ap (λ (x : ℕ). take x text) (sym sum) ∙ take-add k (m - k) text in
    let size : length front ≡ k = length-take-le k text (omega (arith, less, within)) in
    ap (λ (l : List ℕ). drop k (l ++ u)) all ∙ ap (drop k) (append_assoc front more u)
    ∙ ap (λ (x : ℕ). drop x (front ++ (more ++ u))) (sym size) ∙ drop-append_seam front (more ++ u)

count_kept : (most known m : ℕ) (cut : CutLines) (text u : List ℕ) → IsCount most cut text → known ≤ cut.scanned → m ≡ cut.len + known →
    IsCount most (record { count = cut.count; len = cut.len; scanned = known }) (take m text ++ u)
count_kept most known m cut text u so less is =
    let behind : List ℕ = drop cut.len text in
    let left : length behind ≡ length text - cut.len = length-drop cut.len text in
    let within : m ≤ length text = omega (arith, is, less, so.within, so.behind.within, left) in
    let past : m - cut.len ≡ known = omega (arith, is) in
    let rest : drop cut.len (take m text ++ u) ≡ take known behind ++ u =
    kept_behind cut.len m text u (omega (arith, is)) within ∙ ap (λ (x : ℕ). take x behind ++ u) past in
    record {
      within = omega (arith, is, length-append (take m text) u, length-take-le m text within);
      lines = so.lines;
      number = so.number;
      few = so.few;
      short = so.short;
      cuts = subst (λ (t : List ℕ). Cuts false so.lines t []) (sym (kept_front cut.len m text u (omega (arith, is)) within)) so.cuts;
      behind = uncut_kept cut.scanned known known behind (drop cut.len (take m text ++ u)) u so.behind (omega (arith, less, so.behind.within))
          (omega (arith, less)) rest;
    }

first_kept : (n line : ℕ) (what : Asked) (m : ℕ) (text u : List ℕ) → IsFrontLine false n line what text → line + 1 ≤ m → m ≤ length text
    → IsFrontLine false n line what (take m text ++ u)
first_kept n line what m text u so less within =
    let new : List ℕ = take m text ++ u in
    let same : take line text ≡ take line new = sym (kept_front line m text u (omega (arith, less)) within) in
    let next : take (line + 1) text ≡ take (line + 1) new = sym (kept_front (line + 1) m text u less within) in
    let size : m ≤ length new = omega (arith, length-append (take m text) u, length-take-le m text within) in
    let front : Cuts false (take line new ∷ []) (take (line + 1) new) [] =
    subst (λ (l : List ℕ). Cuts false (l ∷ []) (take (line + 1) new) []) same
    (subst (λ (t : List ℕ). Cuts false (take line text ∷ []) t []) next (so.front refl)) in
    record {
      within = omega (arith, less, size);
      whole = λ open_. omega (arith, less, size);
      cuts = front_cuts (take line new ∷ []) (line + 1) new front;
      front = λ open_. front;
      loud = subst (λ (l : List ℕ). is_silent l ≡ false) same so.loud;
      asks = subst (λ (l : List ℕ). IsAsked n (asked n l) (words_of l) what) same so.asks;
    }

pub waiting_kept : (n line known m : ℕ) (what : Asked) (cut : CutLines) (text u : List ℕ) → IsFrontLine false n line what text
    → IsCount (further_count n what) cut (drop (line + 1) text) → known ≤ cut.scanned → m ≡ line + 1 + cut.len + known →
    IsWaiting false n (record { line = line; what = what; cut = record { count = cut.count; len = cut.len; scanned = known } }) (take m text ++ u)
waiting_kept n line known m what cut text u first so less is =
    let behind : List ℕ = drop (line + 1) text in
    let left : length behind ≡ length text - (line + 1) = length-drop (line + 1) text in
    let some : line < length text = first.whole refl in
    let last : length (drop cut.len behind) ≡ length behind - cut.len = length-drop cut.len behind in
    let within : m ≤ length text = omega (arith, is, less, so.within, so.behind.within, left, last, some) in
    let rest : drop (line + 1) (take m text ++ u) ≡ take (m - (line + 1)) behind ++ u = kept_behind (line + 1) m text u (omega (arith, is)) within in
    let new : CutLines = record { count = cut.count; len = cut.len; scanned = known } in
    record {
      first = first_kept n line what m text u first (omega (arith, is)) within;
      further = subst (λ (t : List ℕ). IsCount (further_count n what) new t) (sym rest)
          (count_kept (further_count n what) known (m - (line + 1)) cut behind u so less (omega (arith, is)));
    }
