-- Further lines that come whole in a piece, each cut short where it is too long.
use Rattle.std.proofs.Common.{◌≡◌, ℕ, ◌+◌, ◌-◌, ◌*◌, ◌<◌, ◌≤◌, min, nat_le, false, ◌==◌, List, [], ◌∷◌, ◌++◌, length, take, drop, All}
use Rattle.std.proofs.Common.{refl, sym, ◌∙◌, ap, subst, arith, append_assoc, append-nil, length-append, length-drop, inl, inr}
use Rattle.std.proofs.Math.Seq.{take-add}
use Rattle.std.proofs.lemmas.List.{take_all, take-append-drop, drop-drop, length-take-le, take-append-le}
use Rattle.std.proofs.lemmas.List.Elements.{All-nil, All-push, All-take}
use Rattle.std.proofs.lemmas.Bool.{leb-true, leb-false, cases_Bool}
use Rattle.quilt_words.specs.Items.{whole_lines}
use Rattle.quilt_lang.specs.Reading.{Gives, HasNewline, IsLine, unfinished}
use Rattle.quilt_lang.specs.Shortening.{IsShortened, Misses}
use Rattle.quilt_lang.proofs.Counts.{newline_front, take_less}
use Rattle.quilt_lang.proofs.LineLaws.{whole_line, whole_none}
use Rattle.quilt_lang.proofs.Long.{line_front, onto}
use Rattle.quilt_lang.proofs.Pieces.{gives_none, gives_then, gives_fed}
use Rattle.quilt_lang.proofs.Shortened.{Wants, gives_cut}
use Rattle.quilt_lang.proofs.Unfinished.{unfinished_newline, whole_behind_part, whole_on}

nil : IsLine []
nil = All-nil (λ (c : ℕ). (c == 10) ≡ false)

wanted : (n most missing : ℕ) (text : List ℕ) → Misses n most missing text → 0 < missing → Wants n most text
wanted n most missing text so some = record {
  line = so.line;
  more = so.more;
  what = so.what;
  lines = so.lines;
  loud = so.loud;
  asks = so.asks;
  few = omega (arith, so.number, some);
  limit = so.limit;
}

-- a line with its newline behind a text
one_more : (text s : List ℕ) → IsLine s → whole_lines ((text ++ s) ++ 10 ∷ []) ≡ whole_lines text ++ ((unfinished text ++ s) ++ []) ∷ []
one_more text s none =
    let newline : whole_lines (10 ∷ []) ≡ [] ∷ [] = whole_line [] [] nil ∙ ap (λ (l : List (List ℕ)). [] ∷ l) (whole_none [] nil) in
    rw newline at (whole_behind_part text s (10 ∷ []) none)

misses_next : (n most missing : ℕ) (text s : List ℕ) → Misses n most missing text → 0 < missing → IsLine s
    → Misses n most (missing - 1) ((text ++ s) ++ 10 ∷ [])
misses_next n most missing text s so some none = record {
  line = so.line;
  more = so.more ++ ((unfinished text ++ s) ++ []) ∷ [];
  what = so.what;
  lines = one_more text s none ∙ ap (λ (l : List (List ℕ)). l ++ ((unfinished text ++ s) ++ []) ∷ []) so.lines;
  loud = so.loud;
  asks = so.asks;
  number = omega (arith, so.number, some, length-append so.more (((unfinished text ++ s) ++ []) ∷ []));
  limit = so.limit;
}

-- of bytes with no newline so many may be kept
gives_enough : (n most missing : ℕ) (text s : List ℕ) (m : ℕ) → Misses n most missing text → 0 < missing → IsLine s → m ≡ min (length s) (most + 1)
    → Gives false n [] (text ++ s) (text ++ take m s)
gives_enough n most missing text s m so some none is = elim (cases_Bool (nat_le (length s) (most + 1))) [
  | inl low ↦
      let few : length s ≤ most + 1 = leb-true (length s) (most + 1) low in
      rw (take_all m s (omega (arith, is, few))) (gives_none false n (text ++ s))
  | inr high ↦
      let many : most + 1 < length s = omega (arith, leb-false (length s) (most + 1) high) in
      gives_cut n most text s (take m s) (wanted n most missing text so some) none (line_front m s none) (omega (arith, many))
      (omega (arith, many, is, length-take-le m s (omega (arith, many, is))))
]

-- so far the lines at the front of a piece were cut
pub record LinesSoFar (most missing left : ℕ) (text new : List ℕ) : Type 0 where
  pub behind : List (List ℕ)
  pub are : whole_lines (text ++ new) ≡ whole_lines text ++ behind
  pub size : length behind + left ≡ missing
  pub short : All (λ l. length l ≤ 2 * (most + 1)) behind
  pub part : length (unfinished (text ++ new)) ≤ most + 1

pub record ShortSoFar (most missing : ℕ) (piece : List ℕ) (from left : ℕ) (new : List ℕ) : Type 0 where
  pub within : from ≤ length piece
  pub count : left ≤ missing
  pub few : length new ≤ from
  pub gives : (n : ℕ) (text : List ℕ) → Misses n most missing text → Gives false n [] (text ++ piece) ((text ++ new) ++ drop from piece)
  pub misses : (n : ℕ) (text : List ℕ) → Misses n most missing text → Misses n most left (text ++ new)
  pub lines : (text : List ℕ) → length (unfinished text) ≤ most + 1 → LinesSoFar most missing left text new

pub short_first : (most missing : ℕ) (piece : List ℕ) → ShortSoFar most missing piece 0 missing []
short_first most missing piece = record {
  within = omega arith;
  count = omega arith;
  few = omega arith;
  gives = λ n text so. rw (append-nil text) (gives_none false n (text ++ piece));
  misses = λ n text so. rw (append-nil text) so;
  lines = λ text open_. record {
    behind = [];
    are = ap whole_lines (append-nil text) ∙ sym (append-nil (whole_lines text));
    size = omega arith;
    short = All-nil (λ l. length l ≤ 2 * (most + 1));
    part = rw (append-nil text) open_;
  };
}

-- where bytes go behind others
regroup : (text new s v : List ℕ) → (text ++ ((new ++ s) ++ 10 ∷ [])) ++ v ≡ ((text ++ new) ++ s) ++ (10 ∷ v)
regroup text new s v =
    ap (λ (l : List ℕ). l ++ v) (ap (λ (l : List ℕ). text ++ l) (append_assoc new s (10 ∷ [])) ∙ sym (append_assoc text new (s ++ 10 ∷ []))
    ∙ sym (append_assoc (text ++ new) s (10 ∷ []))) ∙ append_assoc ((text ++ new) ++ s) (10 ∷ []) v

grouped_on : (text new s : List ℕ) → text ++ ((new ++ s) ++ 10 ∷ []) ≡ ((text ++ new) ++ s) ++ (10 ∷ [])
grouped_on text new s = sym (append-nil (text ++ ((new ++ s) ++ 10 ∷ []))) ∙ regroup text new s []

pub short_next : (most missing : ℕ) (piece : List ℕ) (from left k j : ℕ) (rest new all : List ℕ) → ShortSoFar most missing piece from left new → 0 < left
    → rest ≡ drop from piece → HasNewline rest k → j ≡ min k (most + 1) → all ≡ (new ++ take j rest) ++ 10 ∷ []
    → ShortSoFar most missing piece (from + (k + 1)) (left - 1) all
short_next most missing piece from left k j rest new all so some same at is put =
    let s : List ℕ = take k rest in
    let short : List ℕ = take j rest in
    let size : length s ≡ k = length-take-le k rest (omega (arith, at.within)) in
    let short_size : length short ≡ j = length-take-le j rest (omega (arith, at.within, is)) in
    let left_size : length rest ≡ length piece - from = ap length same ∙ length-drop from piece in
    let cut : take j s ≡ short = take_less j k rest (omega (arith, is)) (omega (arith, at.within, is)) in
    let none : IsLine short = subst IsLine cut (line_front j s at.before) in
    let next : drop (k + 1) rest ≡ drop (from + (k + 1)) piece = ap (drop (k + 1)) same ∙ drop-drop (k + 1) from piece in
    let P : List ℕ → Type 0 = λ (a : List ℕ). ShortSoFar most missing piece (from + (k + 1)) (left - 1) a in
    subst P (sym put) (record {
      within = omega (arith, so.within, at.within, left_size);
      count = omega (arith, so.count);
      few = omega (arith, so.few, is, short_size, length-append (new ++ short) (10 ∷ []), length-append new short);
      gives = λ n text asked.
          let x : List ℕ = text ++ new in
          let back : List ℕ = drop (from + (k + 1)) piece in
          let old : x ++ drop from piece ≡ (x ++ s) ++ (10 ∷ back) =
          ap (λ (l : List ℕ). x ++ l) (sym same ∙ at.is ∙ ap (λ (l : List ℕ). s ++ 10 ∷ l) next) ∙ sym (append_assoc x s (10 ∷ back)) in
          let one : Gives false n [] (x ++ s) (x ++ short) = subst (λ (l : List ℕ). Gives false n [] (x ++ s) (x ++ l)) cut
          (gives_enough n most left x s j (so.misses n text asked) some at.before (omega (arith, is, size))) in
          let step : Gives false n [] ((x ++ s) ++ (10 ∷ back)) ((x ++ short) ++ (10 ∷ back)) = gives_fed n [] (x ++ s) (x ++ short) (10 ∷ back) one in
          let to : Gives false n [] (text ++ piece) ((x ++ s) ++ (10 ∷ back)) = subst (λ (l : List ℕ). Gives false n [] (text ++ piece) l) old (so.gives n text asked) in
          subst (λ (l : List ℕ). Gives false n [] (text ++ piece) l) (sym (regroup text new short back))
          (gives_then false n [] [] (text ++ piece) ((x ++ s) ++ (10 ∷ back)) ((x ++ short) ++ (10 ∷ back)) to step);
      misses = λ n text asked. subst (λ (l : List ℕ). Misses n most (left - 1) l) (sym (grouped_on text new short))
          (misses_next n most left (text ++ new) short (so.misses n text asked) some none);
      lines = λ text open_.
          let x : List ℕ = text ++ new in
          let was = so.lines text open_ in
          let line : List ℕ = (unfinished x ++ short) ++ [] in
          let line_size : length line ≤ 2 * (most + 1) =
          omega (arith, was.part, is, short_size, length-append (unfinished x ++ short) [], length-append (unfinished x) short) in
          record {
            behind = was.behind ++ line ∷ [];
            are = ap whole_lines (grouped_on text new short) ∙ one_more x short none ∙ ap (λ (l : List (List ℕ)). l ++ line ∷ []) was.are
                ∙ append_assoc (whole_lines text) was.behind (line ∷ []);
            size = omega (arith, was.size, some, so.count, length-append was.behind (line ∷ []));
            short = All-push (λ l. length l ≤ 2 * (most + 1)) was.behind line was.short line_size;
            part = omega (arith, ap length (ap unfinished (grouped_on text new short) ∙ unfinished_newline (x ++ short)));
          };
    })

-- all lines that are missing were cut
pub short_all : (most missing : ℕ) (piece : List ℕ) (from : ℕ) (rest new all : List ℕ) → ShortSoFar most missing piece from 0 new
    → rest ≡ drop from piece → all ≡ new ++ rest → IsShortened most missing piece all
short_all most missing piece from rest new all so same put =
    let left_size : length rest ≡ length piece - from = ap length same ∙ length-drop from piece in
    let P : List ℕ → Type 0 = λ (a : List ℕ). IsShortened most missing piece a in
    subst P (sym put) (record {
      few = omega (arith, so.few, so.within, left_size, length-append new rest);
      gives = λ n text asked. subst (λ (l : List ℕ). Gives false n [] (text ++ piece) l)
          (ap (λ (l : List ℕ). (text ++ new) ++ l) (sym same) ∙ append_assoc text new rest) (so.gives n text asked);
      lines = λ text open_.
          let was = so.lines text open_ in
          let x : List ℕ = text ++ new in
          let more : List (List ℕ) = whole_lines (unfinished x ++ rest) in
          record {
            behind = was.behind ++ more;
            are = ap whole_lines (sym (append_assoc text new rest)) ∙ whole_on x rest ∙ ap (λ (l : List (List ℕ)). l ++ more) was.are
                ∙ append_assoc (whole_lines text) was.behind more;
            short = subst (All (λ l. length l ≤ 2 * (most + 1)))
                (sym (take-append-le missing was.behind more (omega (arith, was.size)) ∙ take_all missing was.behind (omega (arith, was.size)))) was.short;
          };
    })

-- the piece ends with a line that goes on
pub short_end : (most missing : ℕ) (piece : List ℕ) (from left j : ℕ) (rest new all : List ℕ) → ShortSoFar most missing piece from left new → 0 < left
    → rest ≡ drop from piece → IsLine rest → j ≡ min (length rest) (most + 1) → all ≡ new ++ take j rest → IsShortened most missing piece all
short_end most missing piece from left j rest new all so some same none is put =
    let short : List ℕ = take j rest in
    let left_size : length rest ≡ length piece - from = ap length same ∙ length-drop from piece in
    let short_size : length short ≡ j = length-take-le j rest (omega (arith, is)) in
    let P : List ℕ → Type 0 = λ (a : List ℕ). IsShortened most missing piece a in
    subst P (sym put) (record {
      few = omega (arith, so.few, so.within, left_size, is, short_size, length-append new short);
      gives = λ n text asked.
          let x : List ℕ = text ++ new in
          let to : Gives false n [] (text ++ piece) (x ++ rest) =
          subst (λ (l : List ℕ). Gives false n [] (text ++ piece) (x ++ l)) (sym same) (so.gives n text asked) in
          subst (λ (l : List ℕ). Gives false n [] (text ++ piece) l) (append_assoc text new short)
          (gives_then false n [] [] (text ++ piece) (x ++ rest) (x ++ short) to (gives_enough n most left x rest j (so.misses n text asked) some none is));
      lines = λ text open_.
          let was = so.lines text open_ in
          let x : List ℕ = text ++ new in
          let same_lines : whole_lines (text ++ (new ++ short)) ≡ whole_lines x =
          ap whole_lines (sym (append_assoc text new short) ∙ sym (append-nil (x ++ short))) ∙ whole_behind_part x short [] (line_front j rest none)
          ∙ ap (λ (l : List (List ℕ)). whole_lines x ++ onto (unfinished x ++ short) l) (whole_none [] nil) ∙ append-nil (whole_lines x) in
          record {
            behind = was.behind;
            are = same_lines ∙ was.are;
            short = All-take (λ l. length l ≤ 2 * (most + 1)) missing was.behind was.short;
          };
    })

-- the front of a piece with its next newline
front_more : (piece : List ℕ) (from k : ℕ) (rest : List ℕ) → rest ≡ drop from piece → HasNewline rest k
    → take (from + (k + 1)) piece ≡ (take from piece ++ take k rest) ++ 10 ∷ []
front_more piece from k rest same at =
    take-add from (k + 1) piece ∙ ap (λ (l : List ℕ). take from piece ++ take (k + 1) l) (sym same)
    ∙ ap (λ (l : List ℕ). take from piece ++ l) (newline_front rest k at) ∙ sym (append_assoc (take from piece) (take k rest) (10 ∷ []))

-- where no line is too long the piece stays as it is
pub whole_next : (most missing : ℕ) (piece : List ℕ) (from left k : ℕ) (rest : List ℕ) → ShortSoFar most missing piece from left (take from piece) → 0 < left
    → rest ≡ drop from piece → HasNewline rest k → k ≤ most + 1
    → ShortSoFar most missing piece (from + (k + 1)) (left - 1) (take (from + (k + 1)) piece)
whole_next most missing piece from left k rest so some same at few =
    short_next most missing piece from left k k rest (take from piece) (take (from + (k + 1)) piece) so some same at (omega (arith, few))
    (front_more piece from k rest same at)

pub whole_all : (most missing : ℕ) (piece : List ℕ) (from left : ℕ) → ShortSoFar most missing piece from left (take from piece) → left ≤ 0
    → IsShortened most missing piece piece
whole_all most missing piece from left so none =
    let zero_left : left ≡ 0 = omega (arith, none) in
    let so_none : ShortSoFar most missing piece from 0 (take from piece) =
    subst (λ (l : ℕ). ShortSoFar most missing piece from l (take from piece)) zero_left so in
    short_all most missing piece from (drop from piece) (take from piece) piece so_none refl (sym (take-append-drop from piece))

pub whole_end : (most missing : ℕ) (piece : List ℕ) (from left : ℕ) (rest : List ℕ) → ShortSoFar most missing piece from left (take from piece) → 0 < left
    → rest ≡ drop from piece → IsLine rest → length rest ≤ most + 1 → IsShortened most missing piece piece
whole_end most missing piece from left rest so some same none few =
    short_end most missing piece from left (length rest) rest (take from piece) piece so some same none (omega (arith, few))
    (sym (take-append-drop from piece) ∙ ap (λ (l : List ℕ). take from piece ++ l) (sym same ∙ sym (take_all (length rest) rest (omega arith))))
