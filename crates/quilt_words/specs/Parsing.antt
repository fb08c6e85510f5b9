-- What a parser's answer says, and the text of a refusal.
use Rattle.std.specs.Prelude.{◌≡◌, ◌<◌, ◌⊎◌, ◌==◌, ℕ, List, [], ◌∷◌, ◌++◌, length, Result, Ok, Err, IsSome, codes, decimal, if◌then◌else◌}
use Rattle.quilt_types.specs.CodeTable.{code_number, code_word}
use Rattle.quilt_types.specs.declared.code.Code.{Code}
use Rattle.quilt_types.specs.declared.code.Code.TheVariants as codes_of
use Rattle.quilt_words.specs.Forms.{values_of}
use Rattle.quilt_words.specs.Table.{Argument, Value}
use Rattle.quilt_words.specs.Items.{words_of}
use Rattle.quilt_words.specs.declared.item.Item.{Item}
use Rattle.quilt_words.specs.declared.item.Item.TheVariants.{Long, Line, Rows, PointLines, RingLines}
use Rattle.quilt_words.specs.declared.parse_err.ParseErr.{ParseErr}
use Rattle.quilt_words.specs.declared.parse_err.ParseErr.TheVariants as errs

-- the value or the code is this, unless memory ran out
abbrev pub IsParsedAs : {A : Type 0} → Result A ParseErr → Result A Code → Type 0
IsParsedAs (Ok x) r = r ≡ Ok x
IsParsedAs (Err (errs.No code)) r = r ≡ Err code
IsParsedAs (Err errs.Memory) r = Unit {0}

-- what may take memory to be parsed: further lines that are there and well formed, or a line of more words than are kept without it
abbrev pub WantsMemory : Item → Type 0
WantsMemory Long = ⊥
WantsMemory (Line line) = 8 < length (words_of line)
WantsMemory (Rows line rows) = IsSome rows ⊎ (8 < length (words_of line))
WantsMemory (PointLines line points) = IsSome points ⊎ (8 < length (words_of line))
WantsMemory (RingLines line rings) = IsSome rings ⊎ (8 < length (words_of line))

-- the value is made of what was read, or the code is the refusal of what was read
abbrev pub MakesOf : {A B : Type 0} → (Result A Code → Type 0) → (A → B → Type 0) → Result B Code → Type 0
MakesOf {A} read made (Ok y) = (x : A) × read (Ok x) × made x y
MakesOf read made (Err code) = read (Err code)

-- what the answer holds has this value, or the code is the answer's
abbrev pub ReadsOne : {A V : Type 0} → (A → V) → Result A Code → Result V Code → Type 0
ReadsOne value (Ok x) r = r ≡ Ok (value x)
ReadsOne value (Err code) r = r ≡ Err code

-- the values of so many arguments, or the code of the first refusal
abbrev pub counted : List Argument → List (List ℕ) → Result (List Value) Code
counted arguments words = if length arguments == length words then values_of arguments words else Err codes_of.Count

-- the line that refuses: `no`, the number and the word
abbrev pub refusal : Code → List ℕ
refusal code = codes "no " ++ decimal (code_number code) ++ codes " " ++ code_word code ++ 10 ∷ []
