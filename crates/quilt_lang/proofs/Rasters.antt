-- The rows of an item, as many as are asked for or as there are, and what it spells with them.
use Rattle.std.proofs.Common.{◌≡◌, ℕ, ◌+◌, ◌<◌, ◌≤◌, ◌==◌, ◌||◌, not, Bool, true, false, List, [], ◌∷◌, ◌++◌, length, take, drop, min, Option, None, Result, cond}
use Rattle.std.proofs.Common.{refl, sym, ◌∙◌, ap, subst, arith, inl, inr, append-nil, length-append, length-drop}
use Rattle.std.specs.List.{list_all}
use Rattle.std.proofs.lemmas.List.{drop_all, drop-drop, take_all}
use Rattle.std.proofs.lemmas.Bool.{eqb-true, eqb-false, or_parts, cases_Bool, not-false}
use Rattle.quilt_types.specs.Plane.{side}
use Rattle.quilt_types.specs.declared.code.Code.{Code}
use Rattle.quilt_words.specs.declared.command.Command.{Command}
use Rattle.quilt_words.specs.Forms.{form, form_of_words}
use Rattle.quilt_words.specs.Items.{asked, asked_by, held, is_long, is_plain, lines_of, rows_of, whole_lines, words_of}
use Rattle.quilt_lang.specs.declared.asked.Asked.TheVariants as kinds
use Rattle.quilt_lang.specs.declared.progress.CutLines.{CutLines}
use Rattle.quilt_lang.specs.Reading.{Gives, GivesCommand, IsLine}
use Rattle.quilt_lang.specs.Cutting.{Cuts, CutsUpTo, HasRaster, IsAsked, grouped}
use Rattle.quilt_lang.specs.Progress.{IsCount, IsFrontLine}
use Rattle.quilt_lang.proofs.Asking.{some_side}
use Rattle.quilt_lang.proofs.Commands.{given_command, held_form}
use Rattle.quilt_lang.proofs.Counts.{lines_there}
use Rattle.quilt_lang.proofs.Groups.{front_cuts, front_gives, front_lines}
use Rattle.quilt_lang.proofs.LineLaws.{last_line, no_lines}
use Rattle.quilt_lang.proofs.Pieces.{drop_min}

-- lines that are cut whatever follows, and all lines where the input has ended
cuts_ended : (e : Bool) (ls : List (List ℕ)) (a b : List ℕ) → Cuts false ls a b → Cuts e ls a b
cuts_ended e ls a b so = record { all = λ v may. so.all v tt; whole = λ open_ v. so.whole refl v }

cuts_all : (a : List ℕ) → Cuts true (lines_of a) a []
cuts_all a = record {
  all = λ v may. rw (may, append-nil a, no_lines) (sym (append-nil (lines_of a)));
  whole = λ open_ v. absurd (let bad : true ≡ false = open_ in cc);
}

-- the lines that are cut are the first ones
front_taken : (e : Bool) (count : ℕ) (ls : List (List ℕ)) (a b : List ℕ) → CutsUpTo e count ls a b → (e || (length ls == count)) ≡ true
    → take count (lines_of a) ≡ ls
front_taken false count ls a b so is =
    let lines : lines_of a ≡ ls ++ lines_of b = rw (append-nil a, append-nil b) at (so.cuts.all [] tt) in
    ap (take count) lines ∙ front_lines ls (lines_of b) count (eqb-true (length ls) count is)
front_taken true count ls a b so is =
    let lines : lines_of a ≡ ls ++ lines_of b = rw (append-nil a, append-nil b) at (so.cuts.all [] refl) in
    elim (cases_Bool (length ls == count)) [
      | inl full ↦ ap (take count) lines ∙ front_lines ls (lines_of b) count (eqb-true (length ls) count full)
      | inr other ↦
          let few : length ls < count = omega (arith, so.few, eqb-false (length ls) count other) in
          let none : lines_of b ≡ [] = so.stops few in
          let all : lines_of a ≡ ls = lines ∙ ap (λ (l : List (List ℕ)). ls ++ l) none ∙ append-nil ls in
          ap (take count) all ∙ take_all count ls so.few
    ]

first_lines : (e : Bool) (count : ℕ) (ls : List (List ℕ)) (a b : List ℕ) → (e ≡ false → count ≤ length (whole_lines a)) → CutsUpTo e count ls a b →
    CutsUpTo e count (take count (lines_of a)) a b
first_lines e count ls a b there so =
    let P : List (List ℕ) → Type 0 = λ (l : List (List ℕ)). CutsUpTo e count l a b in
    subst P (sym (front_taken e count ls a b so (lines_there e count ls a b so there))) so

-- lines that are counted, where all are there or more may come
pub counted_there : (e : Bool) (count : ℕ) (cut : CutLines) (text : List ℕ) → IsCount count cut text → (not e || (cut.count == count)) ≡ true
    → (cut.count < count → whole_lines (drop cut.len text) ≡ []) → (e ≡ false → count ≤ length (whole_lines text)) →
    CutsUpTo e count (take count (lines_of text)) text (drop cut.len text)
counted_there false count cut text so is stops there =
    first_lines false count so.lines text (drop cut.len text) there
    (record {
      cuts = front_cuts so.lines cut.len text so.cuts;
      few = omega (arith, so.few, so.number);
      stops = λ few. stops (omega (arith, few, so.number));
    })
counted_there true count cut text so is stops there =
    first_lines true count so.lines text (drop cut.len text) there
    (record {
      cuts = cuts_ended true so.lines text (drop cut.len text) (front_cuts so.lines cut.len text so.cuts);
      few = omega (arith, so.few, so.number);
      stops = λ few. absurd (omega (arith, few, so.number, eqb-true cut.count count is));
    })

-- and where the input has ended with fewer
one_line : (part : List ℕ) → IsLine part → length (lines_of part) ≤ 1
one_line [] none = rw no_lines (omega arith)
one_line (c ∷ cs) none = rw (last_line c cs none) (omega arith)

pub counted_end : (e : Bool) (count : ℕ) (cut : CutLines) (text : List ℕ) → IsCount count cut text → (not e || (cut.count == count)) ≡ false
    → (cut.count < count → cut.len + cut.scanned ≡ length text) →
    CutsUpTo e count (take count (lines_of text)) text (drop (length text) text)
counted_end false count cut text so is all = absurd (let bad : true ≡ false = is in cc)
counted_end true count cut text so is all =
    let rest : List ℕ = drop cut.len text in
    let few : cut.count < count = omega (arith, so.few, eqb-false cut.count count is) in
    let size : length rest ≤ cut.scanned = omega (arith, all few, length-drop cut.len text) in
    let none : IsLine rest = subst (λ (l : List ℕ). IsLine l) (take_all cut.scanned rest size) so.behind.none in
    let cuts : Cuts true so.lines text rest = cuts_ended true so.lines text rest (front_cuts so.lines cut.len text so.cuts) in
    let lines : lines_of text ≡ so.lines ++ lines_of rest = rw (append-nil text, append-nil rest) at (cuts.all [] refl) in
    let long : length (lines_of text) ≤ count =
    omega (arith, few, so.number, one_line rest none, ap length lines, length-append so.lines (lines_of rest)) in
    rw (drop_all (length text) text (omega arith), take_all count (lines_of text) long)
    (record { cuts = cuts_all text; few = long; stops = λ less. no_lines })

-- a line that asks for rows is neither too long nor odd
pub rows_plain : (n : ℕ) (line : List ℕ) → IsAsked n (asked n line) (words_of line) kinds.Rows → (is_long line ≡ false) × (list_all is_plain line ≡ true)
rows_plain n line asks = elim (cases_Bool (is_long line || not (list_all is_plain line))) [
  | inl odd ↦
      let none : asked n line ≡ 0 = ap (λ (b : Bool). cond {A = ℕ} b 0 (asked_by n (words_of line))) odd in
      absurd (omega (arith, none, asks.number, some_side n))
  | inr is ↦ let parts = or_parts (is_long line) (not (list_all is_plain line)) is in (parts.0, not-false (list_all is_plain line) parts.1)
]

-- where its rows begin
pub rows_from : (bytes text : List ℕ) (from line size m : ℕ) → drop from bytes ≡ text → size ≡ length bytes → m ≡ min size (from + line + 1)
    → drop m bytes ≡ drop (line + 1) text
rows_from bytes text from line size m is same least =
    let next : from + line + 1 ≡ from + (line + 1) = omega arith in
    ap (λ (k : ℕ). drop k bytes) (least ∙ ap (λ (k : ℕ). min k (from + line + 1)) same) ∙ drop_min (from + line + 1) bytes
    ∙ ap (λ (k : ℕ). drop k bytes) next ∙ sym (drop-drop (line + 1) from bytes) ∙ ap (drop (line + 1)) is

-- what a raster at the front spells, and the lines behind it that begin none
pub given_raster : (e : Bool) (n f : ℕ) (spelled : Result Command Code) (text new : List ℕ) (line len : ℕ) (words : List (List ℕ)) (rows : Option (List ℕ))
    → IsFrontLine e n line kinds.Rows text → HasRaster e n line kinds.Rows len text
    → (e ≡ false → side n ≤ length (whole_lines (drop (line + 1) text))) → words ≡ words_of (take line text)
    → rows ≡ rows_of f n (take (side n) (lines_of (drop (line + 1) text)))
    → form_of_words f (record { rows = rows; points = None; rings = None }) words ≡ spelled → ((m : ℕ) → Gives false m [] (drop len text) new) →
    GivesCommand e n f spelled text new
given_raster e n f spelled text new line len words rows first raster there are read formed silent =
    let begins : List ℕ = take line text in
    let behind : List ℕ = drop (line + 1) text in
    let taken : List (List ℕ) = take (side n) (lines_of behind) in
    let plain = rows_plain n begins first.asks in
    let gives : Gives e n (grouped begins taken ∷ []) text (drop len text) =
    front_gives e n kinds.Rows begins text behind (drop len text) taken first.loud first.cuts first.asks raster.rows
    (lines_there e (side n) taken behind (drop len text) raster.rows there) in
    let is : form f (held f n (grouped begins taken)) ≡ spelled =
    held_form f n begins taken kinds.Rows plain.0 first.asks ∙ rw (plain.1, sym are, sym read) formed in
    given_command e n f spelled text (drop len text) new
    (record { item = held f n (grouped begins taken); gives = record { group = grouped begins taken; is = refl; gives = gives }; is = is }) silent
