-- What the words behind each command's word spell: the command's row of the table.
use Rattle.std.specs.Prelude.{ℕ, Bool, ◌-◌, ◌/◌, ◌%◌, ◌&&◌, ◌==◌, nat_le, List, length, Result, Err, Option, Some, None, if◌then◌else◌, codes, find}
use Rattle.std.specs.Str.{bytes_eq}
use Rattle.quilt_types.specs.declared.code.Code.{Code}
use Rattle.quilt_types.specs.declared.code.Code.TheVariants as codes_of
use Rattle.quilt_words.specs.declared.command.Command.{Command}
use Rattle.quilt_words.specs.declared.item.Item.{Item}
use Rattle.quilt_words.specs.declared.item.Item.TheVariants.{Long, Line, Rows, PointLines, RingLines}
use Rattle.quilt_words.specs.declared.further.FurtherLines.{FurtherLines}
use Rattle.quilt_words.specs.Parsing.{counted}
use Rattle.quilt_words.specs.Forms.{or_err, ◌>>=◌, values_of}
use Rattle.quilt_words.specs.Table.{Argument, Value, Further, Entry, table, points_arguments, points_command, recolour_arguments, recolour_command}

-- the command that so many arguments make, each as it is spelled
abbrev pub command_made : List Argument → (Further → List Value → Option Command) → Further → List (List ℕ) → Result Command Code
command_made arguments command more ws = counted arguments ws >>= λ vs. or_err codes_of.Word (command more vs)

-- from 1 to 16 pairs of colours
abbrev pub has_pairs : ℕ → Bool
has_pairs count = nat_le 4 count && nat_le count 34 && (count % 2 == 0)

-- the command that the words behind `recolour` spell in a format, or the code of its refusal
abbrev pub recoloured_command : ℕ → Further → List (List ℕ) → Result Command Code
recoloured_command f more ws =
    if has_pairs (length ws)
    then (values_of (recolour_arguments f ((length ws - 2) / 2)) ws >>= λ vs. or_err codes_of.Word (recolour_command more vs))
    else Err codes_of.Count

-- the command that the words behind the word of a row spell, or the code of its refusal
abbrev pub row_formed : Option Entry → Further → List (List ℕ) → Result Command Code
row_formed None more ws = Err codes_of.Word
row_formed (Some e) more ws = command_made e.arguments e.command more ws

-- the command that a word and the words behind it spell in a format, or the code of its refusal
abbrev pub formed : ℕ → Further → List ℕ → List (List ℕ) → Result Command Code
formed f more word ws =
    if bytes_eq word (codes "recolour") then recoloured_command f more ws
    else if bytes_eq word (codes "points") then command_made (points_arguments (length ws)) points_command more ws
    else row_formed (find (λ e. bytes_eq e.word word) (table f)) more ws

-- no further lines, or some that are missing or not well formed
abbrev pub nothing_further : Further
nothing_further = record { rows = None; points = None; rings = None }

-- what the further lines of an item spell
abbrev pub further_of : Item → Further
further_of Long = record { rows = None; points = None; rings = None }
further_of (Line line) = record { rows = None; points = None; rings = None }
further_of (Rows line rows) = record { rows = rows; points = None; rings = None }
further_of (PointLines line points) = record { rows = None; points = points; rings = None }
further_of (RingLines line rings) = record { rows = None; points = None; rings = rings }

-- what further lines spell, as the program holds it
abbrev pub spelled_by : FurtherLines → Further
spelled_by further = record { rows = further.rows; points = further.points; rings = further.rings }
