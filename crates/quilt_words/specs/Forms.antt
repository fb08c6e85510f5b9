-- The command that an item spells, or the code of its refusal.
use Rattle.std.specs.Prelude.{◌≡◌, ℕ, ◌-◌, ◌/◌, ◌%◌, ◌&&◌, ◌==◌, nat_le, List, [], ◌∷◌, length, Option, Some, None, if◌then◌else◌, codes, Result, Ok, Err, find}
use Rattle.std.specs.Prelude.{option_map}
use Rattle.std.specs.List.{list_all}
use Rattle.std.specs.Str.{bytes_eq}
use Rattle.quilt_types.specs.declared.code.Code.{Code}
use Rattle.quilt_types.specs.declared.code.Code.TheVariants as codes_of
use Rattle.quilt_words.specs.declared.command.Command.{Command}
use Rattle.quilt_words.specs.declared.item.Item.{Item}
use Rattle.quilt_words.specs.declared.item.Item.TheVariants.{Long, Line, Rows, PointLines, RingLines}
use Rattle.quilt_words.specs.Items.{Group, held, is_plain, words_of}
use Rattle.quilt_words.specs.Spelling.{number, signed, name}
use Rattle.quilt_words.specs.Table.{Argument, A_name, A_number, A_signed, Value, Called, Number, Signed, Further, Entry, table, points_entry, recolour_entry}

-- goes on with the value where there is one; a refusal stays as it is
infixl 10 ◌>>=◌
abbrev pub ◌>>=◌ : {A B : Type 0} → Result A Code → (A → Result B Code) → Result B Code
◌>>=◌ (Ok x) f = f x
◌>>=◌ (Err e) f = Err e

-- the value, or this refusal where there is none
abbrev pub or_err : {A : Type 0} → Code → Option A → Result A Code
or_err code None = Err code
or_err code (Some x) = Ok x

-- the row, where it has just this number of arguments; else the refusal `count`
abbrev pub with_count : ℕ → Entry → Result Entry Code
with_count count e = if length e.arguments == count then Ok e else Err codes_of.Count

-- the entry of a word that so many words follow, in a format
abbrev pub entry_of : ℕ → List ℕ → ℕ → Result Entry Code
entry_of f word count =
    if bytes_eq word (codes "recolour")
    then (if nat_le 4 count && nat_le count 34 && (count % 2 == 0) then Ok (recolour_entry f ((count - 2) / 2)) else Err codes_of.Count)
    else if bytes_eq word (codes "points") then with_count count (points_entry count)
    else (or_err codes_of.Word (find (λ e. bytes_eq e.word word) (table f)) >>= with_count count)

-- the value that a word spells for an argument; else the refusal `name` or `number`
unfoldable pub argument_value : Argument → List ℕ → Result Value Code
argument_value A_name word = or_err codes_of.Name (option_map Called (name word))
argument_value (A_number low high) word = or_err codes_of.Number (option_map Number (number low high word))
argument_value A_signed word = or_err codes_of.Number (option_map Signed (signed 65535 word))

-- the values of the arguments, or the code of the leftmost that is ill-spelled
abbrev pub values_of : List Argument → List (List ℕ) → Result (List Value) Code
values_of [] words = Ok []
values_of (a ∷ rest) [] = Ok []
values_of (a ∷ rest) (w ∷ ws) = argument_value a w >>= λ v. values_of rest ws >>= λ vs. Ok (v ∷ vs)

-- what words spell, of which the first is the command's
unfoldable pub form_of_words : ℕ → Further → List (List ℕ) → Result Command Code
form_of_words f more [] = Err codes_of.Word
form_of_words f more (word ∷ words) =
    entry_of f word (length words) >>= λ e. values_of e.arguments words >>= λ vs. or_err codes_of.Word (e.command more vs)

-- the command that a line spells in a format, with what its further lines spell; `bytes` where a byte is outside of 32 to 126
abbrev pub form_of_line : ℕ → List ℕ → Further → Result Command Code
form_of_line f line more = if list_all is_plain line then form_of_words f more (words_of line) else Err codes_of.Bytes

-- what an item spells in a format
unfoldable pub form : ℕ → Item → Result Command Code
form f Long = Err codes_of.Long
form f (Line line) = form_of_line f line (record { rows = None; points = None; rings = None })
form f (Rows line rows) = form_of_line f line (record { rows = rows; points = None; rings = None })
form f (PointLines line points) = form_of_line f line (record { rows = None; points = points; rings = None })
form f (RingLines line rings) = form_of_line f line (record { rows = None; points = None; rings = rings })

-- some item of a text at this level spells the command in this format
abbrev pub Spelled : ℕ → ℕ → Command → Type 0
Spelled f n command = (group : Group) × (form f (held f n group) ≡ Ok command)
