-- What is kept of a rest that waits for more.
use Rattle.std.proofs.Common.{◌≡◌, ℕ, ◌+◌, ◌-◌, length-take, ◌<◌, ◌≤◌, ◌==◌, min, false, List, [], ◌∷◌, ◌++◌, length, take, drop, map, Option, Some, None, option_map}
use Rattle.std.proofs.Common.{codes, refl, sym, ◌∙◌, ap, subst, arith, append-nil, length-drop, inl, inr}
use Rattle.std.proofs.lemmas.List.{take_all, take-append-drop, drop-drop, length-take-le}
use Rattle.std.proofs.lemmas.List.Elements.{All-nil}
use Rattle.std.proofs.lemmas.Bool.{eqb-true, eqb-false, eq-eqb, cases_Bool}
use Rattle.std.proofs.Math.Seq.{take-add}
use Rattle.quilt_types.specs.Plane.{side}
use Rattle.quilt_words.specs.Items.{asked, held, line_limit, whole_items, whole_lines, words_of}
use Rattle.quilt_lang.specs.declared.asked.Asked.{Asked}
use Rattle.quilt_lang.specs.declared.asked.Asked.TheVariants as kinds
use Rattle.quilt_lang.specs.declared.progress.CutLines.{CutLines}
use Rattle.quilt_lang.specs.declared.progress.Waiting.{Waiting}
use Rattle.quilt_lang.specs.declared.progress.Progress.TheVariants as progresses
use Rattle.quilt_lang.specs.Reading.{Gives, IsLine, begins_silent, first_is_silent, enough_of, limit_behind, point_limit, row_limit, unfinished}
use Rattle.quilt_lang.specs.Shortening.{bounds}
use Rattle.quilt_lang.specs.Cutting.{Cuts, CutsUpTo, IsAsked, grouped, limit_of, further_count}
use Rattle.quilt_lang.specs.Progress.{IsCount, IsFrontLine, KeepsUnfinished, IsWaiting}
use Rattle.quilt_lang.proofs.Asking.{other_word}
use Rattle.quilt_lang.proofs.Counts.{first_whole, uncut_all, uncut_kept, waiting_kept}
use Rattle.quilt_lang.proofs.Groups.{fronts_then, front_cuts, front_gives}
use Rattle.quilt_lang.proofs.LineLaws.{whole_none}
use Rattle.quilt_lang.proofs.Long.{gives_kept, line_front}
use Rattle.quilt_lang.proofs.Pieces.{gives_none}
use Rattle.quilt_lang.proofs.Shortened.{Wants, gives_cut}
use Rattle.quilt_lang.proofs.Unfinished.{unfinished_all, unfinished_none, unfinished_part, whole_kept}

-- a line that is not whole, with nothing before it
pub kept_begun : (n m : ℕ) (text : List ℕ) → IsLine text → m ≡ min (length text) (line_limit + 1) → KeepsUnfinished n text (progresses.Begun m)
kept_begun n m text none is =
    let all : length (unfinished text) ≡ length text = ap length (unfinished_all text none) in
    let limit : limit_behind n (whole_lines text) ≡ Some line_limit = ap (limit_behind n) (whole_none text none) in
    let enough : enough_of (limit_behind n (whole_lines text)) (length (unfinished text)) ≡ min (length (unfinished text)) (line_limit + 1) =
    ap (λ (o : Option ℕ). enough_of o (length (unfinished text))) limit in
    record {
      within = omega (arith, is);
      gives = gives_kept n m text none (λ less. omega (arith, less, is));
      short = omega (arith, is, all, enough);
      behind = λ piece. uncut_kept (length text) m m text (take m text ++ piece) piece (uncut_all text none) (omega (arith, is)) (omega (arith, is)) refl;
      lines = whole_none (take m text) (line_front m text none) ∙ sym (whole_none text none);
      misses = λ b bound. absurd (let bad : None ≡ Some b = bound in cc);
      part = λ b bound. absurd (let bad : None ≡ Some b = bound in cc);
      bounds = λ line more most lines limited. absurd (let bad : [] ≡ line ∷ more = sym (whole_none text none) ∙ lines in cc);
    }

-- what the first line asks for says how long the lines behind it may be
limit_is : (n count : ℕ) (line : List ℕ) (ls : List (List ℕ)) (what : Asked) → IsAsked n count (words_of line) what → 0 < further_count n what
    → limit_behind n (line ∷ ls) ≡ limit_of n what
limit_is n count line ls kinds.Nothing so some = absurd (omega (arith, some))
limit_is n count line ls kinds.Rows so some = rw so.kind refl
limit_is n count line ls (kinds.Points k) so some = rw (other_word (words_of line) (codes "scatter") (codes "raster") so.kind.1 refl, so.kind.1) refl
limit_is n count line ls (kinds.Rings k) so some =
    let ws : List (List ℕ) = words_of line in
    rw (other_word ws (codes "polygon") (codes "raster") so.kind.1 refl, other_word ws (codes "polygon") (codes "scatter") so.kind.1 refl, so.kind.1) refl

-- the bound of further lines, and how many are missing
row_bounds_limit : (o : Option ℕ) (k : ℕ) (b : ℕ × ℕ) → option_map (λ (m : ℕ). (m, k)) o ≡ Some b → o ≡ Some b.0
row_bounds_limit None k b is = absurd (let bad : None ≡ Some b = is in cc)
row_bounds_limit (Some m) k b is = let same : Some (m, k) ≡ Some b = is in let pair : (m, k) ≡ b = cc in ap (λ (p : ℕ × ℕ). Some p.0) pair

row_bounds_missing : (o : Option ℕ) (k : ℕ) (b : ℕ × ℕ) → option_map (λ (m : ℕ). (m, k)) o ≡ Some b → k ≡ b.1
row_bounds_missing None k b is = absurd (let bad : None ≡ Some b = is in cc)
row_bounds_missing (Some m) k b is = let same : Some (m, k) ≡ Some b = is in let pair : (m, k) ≡ b = cc in ap (λ (p : ℕ × ℕ). p.1) pair

bounds_limit : (n : ℕ) (what : Asked) (count : ℕ) (b : ℕ × ℕ) → bounds n what count ≡ Some b → limit_of n what ≡ Some b.0
bounds_limit n kinds.Nothing count b is = absurd (let bad : None ≡ Some b = is in cc)
bounds_limit n kinds.Rows count b is = row_bounds_limit (row_limit n) (side n - count) b is
bounds_limit n (kinds.Points k) count b is = let same : Some (point_limit, k - count) ≡ Some b = is in let pair : (point_limit, k - count) ≡ b = cc in
    ap (λ (p : ℕ × ℕ). Some p.0) pair
bounds_limit n (kinds.Rings k) count b is = let same : Some (line_limit, k - count) ≡ Some b = is in let pair : (line_limit, k - count) ≡ b = cc in
    ap (λ (p : ℕ × ℕ). Some p.0) pair

bounds_missing : (n : ℕ) (what : Asked) (count : ℕ) (b : ℕ × ℕ) → bounds n what count ≡ Some b → further_count n what - count ≡ b.1
bounds_missing n kinds.Nothing count b is = absurd (let bad : None ≡ Some b = is in cc)
bounds_missing n kinds.Rows count b is = row_bounds_missing (row_limit n) (side n - count) b is
bounds_missing n (kinds.Points k) count b is = let same : Some (point_limit, k - count) ≡ Some b = is in let pair : (point_limit, k - count) ≡ b = cc in
    ap (λ (p : ℕ × ℕ). p.1) pair
bounds_missing n (kinds.Rings k) count b is = let same : Some (line_limit, k - count) ≡ Some b = is in let pair : (line_limit, k - count) ≡ b = cc in
    ap (λ (p : ℕ × ℕ). p.1) pair

limit_bounds : (n : ℕ) (what : Asked) (count most : ℕ) → limit_of n what ≡ Some most → bounds n what count ≡ Some (most, further_count n what - count)
limit_bounds n kinds.Nothing count most is = absurd (let bad : None ≡ Some most = is in cc)
limit_bounds n kinds.Rows count most is = ap (option_map (λ (m : ℕ). (m, side n - count))) is
limit_bounds n (kinds.Points k) count most is = let same : Some point_limit ≡ Some most = is in let equal : point_limit ≡ most = cc in
    ap (λ (m : ℕ). Some (m, k - count)) equal
limit_bounds n (kinds.Rings k) count most is = let same : Some line_limit ≡ Some most = is in let equal : line_limit ≡ most = cc in
    ap (λ (m : ℕ). Some (m, k - count)) equal

abbrev first_line : List ℕ → List (List ℕ) → List ℕ
first_line d [] = d
first_line d (l ∷ ls) = l

module _ (n line : ℕ) (what : Asked) (cut : CutLines) (text : List ℕ) (first : IsFrontLine false n line what text)
    (so : IsCount (further_count n what) cut (drop (line + 1) text)) (given : whole_items n text ≡ []) where
  abbrev behind : List ℕ
  behind = drop (line + 1) text

  -- the front that is cut, and what is behind it
  abbrev from : ℕ
  from = line + 1 + cut.len

  abbrev front : List ℕ
  front = take from text

  abbrev last : List ℕ
  last = drop from text

  last_is : drop cut.len behind ≡ last
  last_is = drop-drop cut.len (line + 1) text

  -- not all further lines stand there
  pub few : cut.count < further_count n what
  few = elim (cases_Bool (cut.count == further_count n what)) [
    | inr other ↦ omega (arith, so.few, eqb-false cut.count (further_count n what) other)
    | inl is ↦
        let lines : List (List ℕ) = so.lines in
        let all : length lines ≡ further_count n what = so.number ∙ eqb-true cut.count (further_count n what) is in
        let more : CutsUpTo false (further_count n what) lines behind (drop cut.len behind) = record {
          cuts = front_cuts lines cut.len behind so.cuts;
          few = omega (arith, all);
          stops = λ less. absurd (omega (arith, less, all));
        } in
        let gives : Gives false n (grouped (take line text) lines ∷ []) text (drop cut.len behind) =
        front_gives false n what (take line text) text behind (drop cut.len behind) lines first.loud first.cuts first.asks more
        (eq-eqb (length lines) (further_count n what) all) in
        let whole : map (held 1 n) (whole_items n (text ++ [])) ≡ held 1 n (grouped (take line text) lines)
        ∷ map (held 1 n) (whole_items n (drop cut.len behind ++ [])) = gives.whole refl [] 1 (omega arith) in
        let none : map (held 1 n) (whole_items n (text ++ [])) ≡ [] = ap (λ (t : List ℕ). map (held 1 n) (whole_items n t)) (append-nil text)
        ∙ ap (map (held 1 n)) given in
        absurd (let bad : [] ≡ held 1 n (grouped (take line text) lines) ∷ map (held 1 n) (whole_items n (drop cut.len behind ++ [])) = sym none ∙ whole in cc)
  ]

  fronts : Cuts false (take line text ∷ so.lines) front []
  fronts = subst (λ (t : List ℕ). Cuts false (take line text ∷ so.lines) t []) (sym (take-add (line + 1) cut.len text))
      (fronts_then (take line text ∷ []) so.lines (take (line + 1) text) (take cut.len behind) (first.front refl) so.cuts)

  lines_front : whole_lines front ≡ take line text ∷ so.lines
  lines_front = rw (append-nil front, whole_none [] (All-nil (λ (c : ℕ). (c == 10) ≡ false)), append-nil so.lines) at (fronts.whole refl [])

  wants : (lim : ℕ) → limit_of n what ≡ Some lim → Wants n lim front
  wants lim limit = record {
    line = take line text;
    more = so.lines;
    what = what;
    lines = rw (append-nil front, whole_none [] (All-nil (λ (c : ℕ). (c == 10) ≡ false)), append-nil so.lines) at (fronts.whole refl []);
    loud = first.loud;
    asks = first.asks;
    few = omega (arith, few, so.number);
    limit = limit;
  }

  module _ (all : cut.len + cut.scanned ≡ length behind) where
    size : length text ≡ from + cut.scanned
    size = let some : line < length text = first.whole refl in omega (arith, all, some, length-drop (line + 1) text)

    last_size : length last ≡ cut.scanned
    last_size = omega (arith, size, length-drop from text)

    last_line : IsLine last
    last_line = let uncut : IsLine (take cut.scanned last) = subst (λ (t : List ℕ). IsLine (take cut.scanned t)) last_is so.behind.none in
        subst IsLine (take_all cut.scanned last (omega (arith, last_size))) uncut

    -- of a last line that is too long so much may be kept
    gives_enough : (o : Option ℕ) (known : ℕ) → limit_of n what ≡ o → known ≡ enough_of o cut.scanned → Gives false n [] text (take (from + known) text)
    gives_enough None known limit is = rw (take_all (from + known) text (omega (arith, is, size))) (gives_none false n text)
    gives_enough (Some lim) known limit is = elim (cases_Bool (known == cut.scanned)) [
      | inl same ↦
          let equal : known ≡ cut.scanned = eqb-true known cut.scanned same in
          rw (take_all (from + known) text (omega (arith, equal, size))) (gives_none false n text)
      | inr other ↦
          let less : known < cut.scanned = omega (arith, is, eqb-false known cut.scanned other) in
          let short : List ℕ = take known last in
          let short_size : length short ≡ known = length-take-le known last (omega (arith, less, last_size)) in
          let gives : Gives false n [] (front ++ last) (front ++ short) =
          gives_cut n lim front last short (wants lim limit) last_line (line_front known last last_line) (omega (arith, is, less, last_size))
          (omega (arith, is, less, short_size)) in
          subst (λ (t : List ℕ). Gives false n [] t (take (from + known) text)) (take-append-drop from text)
          (subst (λ (t : List ℕ). Gives false n [] (front ++ last) t) (sym (take-add from known text)) gives)
    ]

    pub kept_waits : (known : ℕ) → known ≡ enough_of (limit_of n what) cut.scanned →
        KeepsUnfinished n text (progresses.Waiting (record { line = line; what = what; cut = record { count = cut.count; len = cut.len; scanned = known } }))
    kept_waits known is =
        let few_known : known ≤ cut.scanned = enough_few (limit_of n what) cut.scanned known is in
        let open_ : unfinished text ≡ last =
        ap unfinished (sym (take-append-drop from text)) ∙ unfinished_part front last last_line
        ∙ ap (λ (l : List ℕ). l ++ last) (unfinished_none (take line text ∷ so.lines) front fronts) in
        let open_size : length (unfinished text) ≡ cut.scanned = ap length open_ ∙ last_size in
        let limit : limit_behind n (whole_lines text) ≡ limit_of n what =
        ap (limit_behind n) (first_whole n line what text first)
        ∙ limit_is n (asked n (take line text)) (take line text) (whole_lines behind) what first.asks (omega (arith, few)) in
        let most : enough_of (limit_behind n (whole_lines text)) (length (unfinished text)) ≡ known =
        ap (λ (o : Option ℕ). enough_of o (length (unfinished text))) limit ∙ ap (enough_of (limit_of n what)) open_size ∙ sym is in
        let short : List ℕ = take known last in
        let short_line : IsLine short = line_front known last last_line in
        let kept : take (from + known) text ≡ front ++ short = take-add from known text in
        let lines_kept : whole_lines (take (from + known) text) ≡ take line text ∷ so.lines =
        ap whole_lines kept ∙ whole_kept front short short_line ∙ lines_front in
        let lines_all : whole_lines text ≡ take line text ∷ so.lines =
        ap whole_lines (sym (take-append-drop from text)) ∙ whole_kept front last last_line ∙ lines_front in
        let part_is : unfinished (take (from + known) text) ≡ short =
        ap unfinished kept ∙ unfinished_part front short short_line
        ∙ ap (λ (l : List ℕ). l ++ short) (unfinished_none (take line text ∷ so.lines) front fronts) in
        record {
          within = omega (arith, few_known, size);
          gives = gives_enough (limit_of n what) known refl is;
          lines = lines_kept ∙ sym lines_all;
          misses = λ b bound. record {
            line = take line text;
            more = so.lines;
            what = what;
            lines = lines_kept;
            loud = first.loud;
            asks = first.asks;
            number = omega (arith, so.number, few, bounds_missing n what cut.count b bound);
            limit = bounds_limit n what cut.count b bound;
          };
          part = λ b bound.
              let known_is : known ≡ min cut.scanned (b.0 + 1) = is ∙ ap (λ (o : Option ℕ). enough_of o cut.scanned) (bounds_limit n what cut.count b bound) in
              omega (arith, ap length part_is, length-take known last, known_is);
          bounds = λ other more most lines limited.
              let same : take line text ∷ so.lines ≡ other ∷ more = sym lines_all ∙ lines in
              let first_is : take line text ≡ other = ap (first_line []) same in
              let asked_is : asked n other ≡ further_count n what = ap (asked n) (sym first_is) ∙ first.asks.number in
              let count_is : cut.count ≡ length more = omega (arith, ap length same, so.number) in
              let to : bounds n what cut.count ≡ Some (most, further_count n what - cut.count) = limit_bounds n what cut.count most (sym limit ∙ limited) in
              to ∙ ap (λ (k : ℕ). Some (most, k)) (omega (arith, asked_is, count_is));
          short = omega (arith, size, open_size, most);
          behind = λ piece. waiting_kept n line known (from + known) what cut text piece first so few_known refl;
        }
      where
        enough_few : (o : Option ℕ) (k known : ℕ) → known ≡ enough_of o k → known ≤ k
        enough_few None k known is = omega (arith, is)
        enough_few (Some most) k known is = omega (arith, is)

-- a rest that waits for further lines begins with a line that begins an item, whatever follows
pub kept_loud : (n : ℕ) (waiting : Waiting) (text : List ℕ) → IsWaiting false n waiting text → begins_silent text ≡ false
kept_loud n waiting text so = ap first_is_silent (first_whole n waiting.line waiting.what text so.first) ∙ so.first.loud
