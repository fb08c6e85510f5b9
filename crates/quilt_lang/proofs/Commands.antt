-- What the item at the front of a text spells.
use Rattle.std.proofs.Common.{◌≡◌, ℕ, ◌+◌, ◌≤◌, ◌||◌, Bool, true, false, List, [], ◌∷◌, length, take, drop, min, Result, Ok, Err, IfOk}
use Rattle.std.proofs.Common.{refl, sym, ◌∙◌, ap, subst, arith}
use Rattle.std.specs.List.{list_all}
use Rattle.quilt_types.specs.declared.code.Code.{Code}
use Rattle.quilt_types.specs.declared.code.Code.TheVariants as codes_of
use Rattle.quilt_words.specs.declared.command.Command.{Command}
use Rattle.quilt_words.specs.Items.{asked, held, is_long, is_plain, is_silent, words_of}
use Rattle.quilt_words.specs.Table.{IsFitting}
use Rattle.quilt_words.specs.Forms.{form, form_of_line, form_of_words, Spelled}
use Rattle.quilt_words.specs.Made.{further_of, nothing_further}
use Rattle.quilt_words.proofs.SpelledLaws.{spelled_fits}
use Rattle.quilt_lang.specs.declared.asked.Asked.{Asked}
use Rattle.quilt_lang.specs.declared.asked.Asked.TheVariants as kinds
use Rattle.quilt_lang.specs.Reading.{Gives, GivesCommand}
use Rattle.quilt_lang.specs.Cutting.{Cuts, CutsUpTo, IsAsked, grouped, holding}
use Rattle.quilt_lang.proofs.Asking.{holds}
use Rattle.quilt_lang.proofs.Groups.{cuts_none, front_gives}
use Rattle.quilt_lang.proofs.Long.{long_item}
use Rattle.quilt_lang.proofs.Pieces.{drop_min, given}

-- a line that is too long
pub long_form : (f n : ℕ) (line : List ℕ) (more : List (List ℕ)) → is_long line ≡ true → form f (held f n (grouped line more)) ≡ Err codes_of.Long
unfolding form
long_form f n line more long = ap (form f) (long_item f n (grouped line more) long)

-- a line with its further lines spells what it spells with what they spell
of_kind : (f n : ℕ) (line : List ℕ) (more : List (List ℕ)) (what : Asked) →
    form f (holding f n line more what) ≡ form_of_line f line (further_of (holding f n line more what))
unfolding form
of_kind f n line more kinds.Nothing = refl
of_kind f n line more kinds.Rows = refl
of_kind f n line more (kinds.Points k) = refl
of_kind f n line more (kinds.Rings k) = refl

pub held_form : (f n : ℕ) (line : List ℕ) (more : List (List ℕ)) (what : Asked) → is_long line ≡ false → IsAsked n (asked n line) (words_of line) what →
    form f (held f n (grouped line more)) ≡ form_of_line f line (further_of (holding f n line more what))
held_form f n line more what short asks =
    ap (form f) (sym (holds f n line more what (holding f n line more what) short asks refl)) ∙ of_kind f n line more what

-- a line that asks for nothing
alone_form : (f n : ℕ) (line : List ℕ) → is_long line ≡ false → asked n line ≡ 0 → form f (held f n (grouped line [])) ≡ form_of_line f line nothing_further
alone_form f n line short none = held_form f n line [] kinds.Nothing short (record { number = none; kind = tt })

pub odd_line : (f n : ℕ) (line : List ℕ) → is_long line ≡ false → list_all is_plain line ≡ false → asked n line ≡ 0
    → form f (held f n (grouped line [])) ≡ Err codes_of.Bytes
odd_line f n line short odd none =
    let refused : form_of_line f line nothing_further ≡ Err codes_of.Bytes = rw odd refl in alone_form f n line short none ∙ refused

pub plain_line : (f n : ℕ) (line : List ℕ) (ws : List (List ℕ)) (spelled : Result Command Code) → is_long line ≡ false → list_all is_plain line ≡ true
    → ws ≡ words_of line → form_of_words f nothing_further ws ≡ spelled → asked n line ≡ 0 → form f (held f n (grouped line [])) ≡ spelled
plain_line f n line ws spelled short plain same is none =
    let words : form_of_line f line nothing_further ≡ form_of_words f nothing_further ws =
    rw plain (ap (form_of_words f nothing_further) (sym same)) in
    alone_form f n line short none ∙ words ∙ is

either : (e : Bool) → (e || true) ≡ true
either true = refl
either false = refl

-- the item at the front, where its line asks for no further lines
pub given_alone : (e : Bool) (n f : ℕ) (spelled : Result Command Code) (text : List ℕ) (k m : ℕ) → is_silent (take k text) ≡ false
    → Cuts e (take k text ∷ []) text (drop (k + 1) text) → m ≡ min (length text) (k + 1) →
    (asked n (take k text) ≡ 0) × (form f (held f n (grouped (take k text) [])) ≡ spelled) →
    (m ≤ length text) × GivesCommand e n f spelled text (drop m text)
given_alone e n f spelled text k m loud first least is =
    let line : List ℕ = take k text in
    let behind : List ℕ = drop (k + 1) text in
    let P : List ℕ → Type 0 = λ (u : List ℕ). Gives e n (grouped line [] ∷ []) text u in
    let new : drop m text ≡ behind = ap (λ (x : ℕ). drop x text) least ∙ drop_min (k + 1) text in
    let none : CutsUpTo e 0 [] behind behind = record { cuts = cuts_none e behind; few = omega arith; stops = λ few. absurd (omega (arith, few)) } in
    let one : Gives e n (grouped line [] ∷ []) text behind =
    front_gives e n kinds.Nothing line text behind behind [] loud first (record { number = is.0; kind = tt }) none (either e) in (
      omega (arith, least),
      record {
        item = held f n (grouped line []);
        gives = record { group = grouped line []; is = refl; gives = subst P (sym new) one };
        is = is.1;
      },
    )

-- the next command, and the lines behind it that begin none
pub given_command : (e : Bool) (n f : ℕ) (spelled : Result Command Code) (old behind new : List ℕ) → GivesCommand e n f spelled old behind
    → ((n : ℕ) → Gives false n [] behind new) → GivesCommand e n f spelled old new
given_command e n f spelled old behind new one silent = record {
  item = one.item;
  gives = given e n f one.item old behind new one.gives silent;
  is = one.is;
}

-- some item spells it
pub given_spelled : (e : Bool) (n f : ℕ) (spelled : Result Command Code) (old new : List ℕ) → GivesCommand e n f spelled old new →
    IfOk spelled (λ command. Spelled f n command)
given_spelled e n f (Ok command) old new one = (one.gives.group, ap (form f) (sym one.gives.is) ∙ one.is)
given_spelled e n f (Err code) old new one = tt

pub given_fits : (e : Bool) (n f : ℕ) (spelled : Result Command Code) (old new : List ℕ) → GivesCommand e n f spelled old new →
    IfOk spelled (λ command. 1 ≤ f → f ≤ 2 → IsFitting f n command)
given_fits e n f (Ok command) old new one = λ low high. spelled_fits f n command low high (given_spelled e n f (Ok command) old new one)
given_fits e n f (Err code) old new one = tt
