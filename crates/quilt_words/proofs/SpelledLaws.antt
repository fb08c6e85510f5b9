-- What a command that an item spells has fits the format and the level.
use Rattle.std.proofs.Common.{◌≡◌, inl, inr, ℕ, zero, suc, ◌+◌, ◌-◌, ◌*◌, ◌/◌, ◌<◌, ◌≤◌, arith, Bool, true, false, cond, List, [], ◌∷◌, length, All}
use Rattle.std.proofs.Common.{Option, Some, None, Result, Ok, Err, refl, sym, ◌∙◌, ap, subst, ◌==◌, option_map, find, ℤ, pos, neg_ℤ, codes, IfOk, IfSome}
use Rattle.std.specs.List.{list_all}
use Rattle.std.specs.Str.{bytes_eq}
use Rattle.std.proofs.lemmas.Bool.{eqb-true, cases_Bool}
use Rattle.std.proofs.Math.Dec.{le→leb}
use Rattle.std.proofs.lemmas.List.Elements.{All-nil, All-cons}
use Rattle.quilt_types.specs.declared.plane.Colour.{Colour}
use Rattle.quilt_types.specs.Layers.{colours, is_name}
use Rattle.quilt_types.specs.declared.code.Code.{Code}
use Rattle.quilt_types.specs.declared.code.Code.TheVariants as codes_of
use Rattle.quilt_words.specs.declared.command.Command.{Command}
use Rattle.quilt_words.specs.declared.command.Command.TheVariants as commands
use Rattle.quilt_words.specs.declared.item.Item.{Item}
use Rattle.quilt_words.specs.declared.item.Item.TheVariants.{Long, Line, Rows, PointLines, RingLines}
use Rattle.quilt_words.specs.Fitting.{IsName, IsWithin, IsShift, IsColour}
use Rattle.quilt_words.specs.Table.{IsFitting, FurtherFits, Further, Argument, A_name, A_number, A_signed, Value, Called, Number, Signed, pairs_of, Entry, table, points_command, recolour_command}
use Rattle.quilt_words.specs.Forms.{or_err, ◌>>=◌, argument_value, values_of, form_of_words, form_of_line, form, Spelled}
use Rattle.quilt_words.specs.Items.{Group, held, is_plain, words_of}
use Rattle.quilt_words.specs.Parsing.{IsParsedAs}
use Rattle.quilt_words.specs.declared.parse_err.ParseErr.{ParseErr}
use Rattle.quilt_words.specs.Made.{command_made, row_formed, recoloured_command, has_pairs, formed, further_of}
use Rattle.quilt_words.specs.Spelling.{number, signed, name}
use Rattle.quilt_words.proofs.Holding.{number_within, further_fits}
use Rattle.quilt_words.proofs.Recolours.{paired, pair_number}
use Rattle.quilt_words.proofs.Forming.{formed_is}

-- ---- the values of arguments

abbrev Fits : Argument → Value → Type 0
Fits A_name (Called a) = IsName a
Fits (A_number low high) (Number k) = IsWithin low high k
Fits A_signed (Signed z) = IsShift z
Fits a v = ⊥

abbrev AllFit : List Argument → List Value → Type 0
AllFit [] [] = Unit {0}
AllFit [] (v ∷ vs) = ⊥
AllFit (a ∷ rest) [] = ⊥
AllFit (a ∷ rest) (v ∷ vs) = Fits a v × AllFit rest vs

-- a number of a range, which stands below the number behind the range
record IsFrom (low high k : ℕ) : Type 0 where
  pub within : IsWithin low high k
  pub below : k < suc high

from_within : (low high k : ℕ) → IsWithin low high k → IsFrom low high k
from_within low high k within = record { within = within; below = let most : k ≤ high = within.most in omega (arith, most) }

-- for all values that the arguments may be
abbrev Each : List Argument → (List Value → Type 0) → Type 0
Each [] P = P []
Each (A_name ∷ rest) P = (a : List ℕ) → IsName a → Each rest (λ vs. P (Called a ∷ vs))
Each (A_number low high ∷ rest) P = (k : ℕ) → IsFrom low high k → Each rest (λ vs. P (Number k ∷ vs))
Each (A_signed ∷ rest) P = (z : ℤ) → IsShift z → Each rest (λ vs. P (Signed z ∷ vs))

of_each : (arguments : List Argument) (P : List Value → Type 0) → Each arguments P → (vs : List Value) → AllFit arguments vs → P vs
of_each [] P all [] fit = all
of_each [] P all (v ∷ vs) fit = absurd fit
of_each (a ∷ rest) P all [] fit = absurd fit
of_each (A_name ∷ rest) P all (Called a ∷ vs) fit = of_each rest (λ us. P (Called a ∷ us)) (all a fit.0) vs fit.1
of_each (A_name ∷ rest) P all (v ∷ vs) fit = absurd fit.0
of_each (A_number low high ∷ rest) P all (Number k ∷ vs) fit =
    of_each rest (λ us. P (Number k ∷ us)) (all k (from_within low high k fit.0)) vs fit.1
of_each (A_number low high ∷ rest) P all (v ∷ vs) fit = absurd fit.0
of_each (A_signed ∷ rest) P all (Signed z ∷ vs) fit = of_each rest (λ us. P (Signed z ∷ us)) (all z fit.0) vs fit.1
of_each (A_signed ∷ rest) P all (v ∷ vs) fit = absurd fit.0

bound : {A B : Type 0} (r : Result A Code) (f : A → Result B Code) (y : B) → (r >>= f) ≡ Ok y → (x : A) × (r ≡ Ok x) × (f x ≡ Ok y)
bound (Ok x) f y is = (x, refl, is)
bound (Err e) f y is = cc

or_some : {A : Type 0} (code : Code) (o : Option A) (x : A) → or_err code o ≡ Ok x → o ≡ Some x
or_some code None x is = cc
or_some code (Some z) x is = let same : z ≡ x = cc in ap Some same

-- what a value was made of
made_of : {A : Type 0} (value : A → Value) (code : Code) (o : Option A) (v : Value) → or_err code (option_map value o) ≡ Ok v
    → (x : A) × (o ≡ Some x) × (value x ≡ v)
made_of value code None v is = cc
made_of value code (Some x) v is = (x, refl, let same : value x ≡ v = cc in same)

name_fits : (word a : List ℕ) → name word ≡ Some a → IsName a
unfolding name
name_fits word a is = elim (cases_Bool (is_name word)) [
  | inl yes_ ↦ let e : Some word ≡ Some a = rw yes_ at is in let same : word ≡ a = cc in subst IsName same yes_
  | inr not_ ↦ let e : None ≡ Some a = rw not_ at is in absurd (cc)
]

positive_fits : (k : ℕ) → k ≤ 65535 → IsShift (pos k)
positive_fits k le = record { least = omega arith; most = omega (arith, le→leb, le) }

negative_fits : (k : ℕ) → k ≤ 65535 → IsShift (neg_ℤ (pos k))
negative_fits zero le = record { least = omega arith; most = omega arith }
negative_fits (suc k) le = record { least = omega (arith, le→leb, le); most = omega arith }

mapped_from : (value : ℕ → ℤ) (o : Option ℕ) (z : ℤ) → option_map value o ≡ Some z → (k : ℕ) × (o ≡ Some k) × (value k ≡ z)
mapped_from value None z is = cc
mapped_from value (Some k) z is = (k, refl, let same : value k ≡ z = cc in same)

sign_fits : (b : Bool) (cs word : List ℕ) (z : ℤ)
    → cond b (option_map (λ v. neg_ℤ (pos v)) (number 1 65535 cs)) (option_map pos (number 0 65535 word)) ≡ Some z → IsShift z
sign_fits true cs word z is =
    let from = mapped_from (λ v. neg_ℤ (pos v)) (number 1 65535 cs) z is in
    subst IsShift from.2 (negative_fits from.0 (number_within 1 65535 cs from.0 from.1).most)
sign_fits false cs word z is =
    let from = mapped_from pos (number 0 65535 word) z is in subst IsShift from.2 (positive_fits from.0 (number_within 0 65535 word from.0 from.1).most)

signed_fits : (word : List ℕ) (z : ℤ) → signed 65535 word ≡ Some z → IsShift z
signed_fits [] z is = cc
signed_fits (c ∷ cs) z is = sign_fits (c == 45) cs (c ∷ cs) z is

argument_fits : (a : Argument) (word : List ℕ) (v : Value) → argument_value a word ≡ Ok v → Fits a v
unfolding argument_value
argument_fits A_name word v is = let from = made_of Called codes_of.Name (name word) v is in subst (Fits A_name) from.2 (name_fits word from.0 from.1)
argument_fits (A_number low high) word v is =
    let from = made_of Number codes_of.Number (number low high word) v is in subst (Fits (A_number low high)) from.2 (number_within low high word from.0 from.1)
argument_fits A_signed word v is = let from = made_of Signed codes_of.Number (signed 65535 word) v is in
    subst (Fits A_signed) from.2 (signed_fits word from.0 from.1)

values_fit : (rest : List Argument) (ws : List (List ℕ)) (vs : List Value) → length rest ≡ length ws → values_of rest ws ≡ Ok vs → AllFit rest vs
values_fit [] ws vs size is = let e : [] ≡ vs = cc in subst (AllFit []) e tt
values_fit (a ∷ rest) [] vs size is = absurd (omega (arith, size))
values_fit (a ∷ rest) (w ∷ ws) vs size is =
    let first = bound (argument_value a w) _ vs is in
    let second = bound (values_of rest ws) _ vs first.2 in
    let e : first.0 ∷ second.0 ≡ vs = let g : Ok (first.0 ∷ second.0) ≡ Ok vs = second.2 in cc in
    subst (AllFit (a ∷ rest)) e (argument_fits a w first.0 first.1, values_fit rest ws second.0 (omega (arith, size)) second.1)

few_colours : (f k : ℕ) → IsWithin 0 (colours f - 1) k → k < colours f
few_colours f k fit = less (f == 1) fit.most
  where
    less : (b : Bool) → k ≤ cond b 256 65536 - 1 → k < cond b 256 65536
    less true le = omega (arith, le)
    less false le = omega (arith, le)

-- ---- the pairs of a recolouring

abbrev ArePaired : ℕ → ℕ → List (Colour × Colour) → Type 0
ArePaired f m pairs = (length pairs ≡ m) × All (λ pair. IsColour f pair.0 × IsColour f pair.1) pairs

pairs_fit : (f k m : ℕ) (vs : List Value) → AllFit (paired f k m) vs → ArePaired f m (pairs_of vs)
pairs_fit f k zero [] fit = (refl, All-nil _)
pairs_fit f k zero (v ∷ vs) fit = absurd fit
pairs_fit f k (suc m) [] fit = absurd fit
pairs_fit f k (suc m) (Called a ∷ vs) fit = absurd (fit.0)
pairs_fit f k (suc m) (Signed z ∷ vs) fit = absurd (fit.0)
pairs_fit f k (suc m) (Number o ∷ []) fit = absurd (fit.1)
pairs_fit f k (suc m) (Number o ∷ Called a ∷ vs) fit = absurd (fit.1.0)
pairs_fit f k (suc m) (Number o ∷ Signed z ∷ vs) fit = absurd (fit.1.0)
pairs_fit f k (suc m) (Number o ∷ Number p ∷ vs) fit =
    let rest = pairs_fit f (k + 1) m vs fit.1.1 in
    let one : Colour × Colour = (record { 0 = o }, record { 0 = p }) in
    let P : Colour × Colour → Type 0 = λ (pair : Colour × Colour). IsColour f pair.0 × IsColour f pair.1 in
    let fits : P one = (few_colours f o fit.0, few_colours f p fit.1.0) in
    (omega (arith, rest.0), All-cons P one (pairs_of vs) fits rest.1)

number_of_pairs : (count : ℕ) → has_pairs count ≡ true → IsWithin 1 16 ((count - 2) / 2)
number_of_pairs count is = record { least = grind arith; most = grind arith }

paired_length : (f k m : ℕ) → length (paired f k m) ≡ 2 * m
paired_length f k zero = refl
paired_length f k (suc m) = omega (arith, paired_length f (k + 1) m)

no_words : (f : ℕ) (more : Further) → form_of_words f more [] ≡ Err codes_of.Word
unfolding form_of_words
no_words f more = refl

-- ---- the rows of the table

-- what the command has fits, where what its further lines spell does
record FitsWith (f n : ℕ) (more : Further) (c : Command) : Type 0 where
  pub fits : FurtherFits f n more → IsFitting f n c

module _ (f n : ℕ) where
  -- a row makes what fits of all that its arguments may be
  abbrev Row : List Argument → (Further → List Value → Option Command) → Type 0
  Row arguments command = (more : Further) → FurtherFits f n more → Each arguments (λ vs. IfSome (command more vs) (IsFitting f n))

  by_row : (arguments : List Argument) (command : Further → List Value → Option Command) (more : Further) (ws : List (List ℕ)) (c : Command)
      → Row arguments command → command_made arguments command more ws ≡ Ok c → FitsWith f n more c
  by_row arguments command more ws c row is = elim (cases_Bool (length arguments == length ws)) [
    | inl same ↦
        let all : (values_of arguments ws >>= λ vs. or_err codes_of.Word (command more vs)) ≡ Ok c = rw same at is in
        let first = bound (values_of arguments ws) _ c all in
        let fit = values_fit arguments ws first.0 (eqb-true (length arguments) (length ws) same) first.1 in
        record {
          fits = λ further.
              subst (λ (o : Option Command). IfSome o (IsFitting f n)) (or_some codes_of.Word _ c first.2)
              (of_each arguments (λ vs. IfSome (command more vs) (IsFitting f n)) (row more further) first.0 fit);
        }
    | inr other ↦ let none : Err codes_of.Count ≡ Ok c = rw other at is in absurd (cc)
  ]

  points_fits : (b : Bool) → Row (A_name ∷ cond b [] (A_number 1 16 ∷ [])) points_command
  points_fits true = λ more further p named. (named, record { least = omega arith; most = omega arith })
  points_fits false = λ more further p named k from. (named, from.within)

  -- each row of a table
  abbrev AllRows : List Entry → Type 0
  AllRows [] = Unit {0}
  AllRows (e ∷ es) = Row e.arguments e.command × AllRows es

  -- what fits is made of what each argument is, where a format has 256 colours and where it has 65536
  all_rows : AllRows (table f)
  all_rows = elim (cases_Bool (f == 1)) [
    | inl one ↦ rw one (assumption)
    | inr other ↦ rw other (assumption)
  ]

  recolour_fits : (m : ℕ) → IsWithin 1 16 m → (more : Further) (vs : List Value) (c : Command) → AllFit (A_name ∷ A_name ∷ paired f 0 m) vs
      → recolour_command more vs ≡ Some c → FitsWith f n more c
  recolour_fits m within more (Called a ∷ Called d ∷ vs) c fit is =
      let pairs = pairs_fit f 0 m vs fit.1.1 in
      let many : IsWithin 1 16 (length (pairs_of vs)) = subst (IsWithin 1 16) (sym pairs.0) within in
      let same : commands.Recolour a d (pairs_of vs) ≡ c = cc in
      subst (FitsWith f n more) same (record { fits = λ further. (fit.0, fit.1.0, record { number = many; each = pairs.1 }) })
  recolour_fits m within more vs c fit is = cc

  recolour_made : (more : Further) (ws : List (List ℕ)) (c : Command) → recoloured_command f more ws ≡ Ok c → FitsWith f n more c
  recolour_made more ws c is = elim (cases_Bool (has_pairs (length ws))) [
    | inl some ↦
        let m : ℕ = (length ws - 2) / 2 in
        let all : (values_of (A_name ∷ A_name ∷ paired f 0 m) ws >>= λ vs. or_err codes_of.Word (recolour_command more vs)) ≡ Ok c = rw some at is in
        let first = bound (values_of (A_name ∷ A_name ∷ paired f 0 m) ws) _ c all in
        let size : length (A_name ∷ A_name ∷ paired f 0 m) ≡ length ws = omega (arith, paired_length f 0 m, pair_number (length ws) some) in
        recolour_fits m (number_of_pairs (length ws) some) more first.0 c
        (values_fit (A_name ∷ A_name ∷ paired f 0 m) ws first.0 size first.1) (or_some codes_of.Word _ c first.2)
    | inr not_ ↦ let none : Err codes_of.Count ≡ Ok c = rw not_ at is in absurd (cc)
  ]

  by_found : (p : Entry → Bool) (es : List Entry) (more : Further) (ws : List (List ℕ)) (c : Command) → AllRows es →
      row_formed (find p es) more ws ≡ Ok c → FitsWith f n more c
  by_found p [] more ws c rows is = cc
  by_found p (e ∷ es) more ws c rows is = elim (cases_Bool (p e)) [
    | inl yes_ ↦ let it : command_made e.arguments e.command more ws ≡ Ok c = rw yes_ at is in by_row e.arguments e.command more ws c rows.0 it
    | inr not_ ↦ by_found p es more ws c rows.1 (rw not_ at is)
  ]

  -- ---- items

  formed_good : (more : Further) (bs : List ℕ) (ws : List (List ℕ)) (c : Command) → formed f more bs ws ≡ Ok c → FitsWith f n more c
  formed_good more bs ws c is = elim (cases_Bool (bytes_eq bs (codes "recolour"))) [
    | inl same ↦ recolour_made more ws c (rw same at is)
    | inr other ↦ elim (cases_Bool (bytes_eq bs (codes "points"))) [
      | inl same ↦ by_row (A_name ∷ cond (length ws == 1) [] (A_number 1 16 ∷ [])) points_command more ws c (points_fits (length ws == 1)) (rw (other, same) at is)
      | inr not_ ↦ by_found (λ e. bytes_eq e.word bs) (table f) more ws c all_rows (rw (other, not_) at is)
    ]
  ]

  words_good : (more : Further) (ws : List (List ℕ)) (c : Command) → form_of_words f more ws ≡ Ok c → FitsWith f n more c
  words_good more [] c is = let bad : Err codes_of.Word ≡ Ok c = sym (no_words f more) ∙ is in cc
  words_good more (bs ∷ ws) c is = formed_good more bs ws c (sym (formed_is f more bs ws) ∙ is)

  line_good : (line : List ℕ) (more : Further) (c : Command) → form_of_line f line more ≡ Ok c → FitsWith f n more c
  line_good line more c is = elim (cases_Bool (list_all is_plain line)) [
    | inl plain ↦ words_good more (words_of line) c (rw plain at is)
    | inr not_ ↦ let bad : Err codes_of.Bytes ≡ Ok c = rw not_ at is in absurd (cc)
  ]

  item_good : (item : Item) (c : Command) → form f item ≡ Ok c → FitsWith f n (further_of item) c
  unfolding form
  item_good Long c is = cc
  item_good (Line line) c is = line_good line _ c is
  item_good (Rows line rows) c is = line_good line _ c is
  item_good (PointLines line points) c is = line_good line _ c is
  item_good (RingLines line rings) c is = line_good line _ c is

-- what a command that an item spells has fits
pub spelled_fits : (f n : ℕ) (c : Command) → 1 ≤ f → f ≤ 2 → Spelled f n c → IsFitting f n c
spelled_fits f n c low high spelled = (item_good f n (held f n spelled.0) c spelled.1).fits (further_fits f n spelled.0 low high)

-- and so what an item spells, where a group holds it
pub fitting : (f : ℕ) (item : Item) (r : Result Command ParseErr) → IsParsedAs r (form f item) →
    IfOk r (λ command. (n : ℕ) (group : Group) → 1 ≤ f → f ≤ 2 → held f n group ≡ item → IsFitting f n command)
fitting f item (Ok c) is = λ n group low high holds. spelled_fits f n c low high (group, ap (form f) holds ∙ is)
fitting f item (Err e) is = tt
