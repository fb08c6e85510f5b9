-- The command that reads the words of the command line, and what its matches ask for.
use Rattle.std.specs.Prelude.{ℕ, Bool, true, false, List, [], ◌∷◌, ◌++◌, Option, Some, None, codes}
use Rattle.clap.specs.Words.{App, Rule, Text, first_value, found_of, new_app, new_rule, with_rule}
use Rattle.clap.specs.declared.parser.matches.ArgMatches.{ArgMatches}
use Rattle.quilt_top.specs.Words as table

-- an argument that is read by its place
abbrev pub placed_argument : Text → Bool → Rule
placed_argument id required = record (new_rule id) { required = required }

-- the one option
abbrev pub pool_option : Rule
pool_option = record (new_rule (codes "pool")) { long = Some (codes "pool") }

-- the command before its arguments, which has no help and reads the words behind the program's name alone
abbrev pub bare : App
bare = let app = new_app (codes "quilt") in
    record app { top = record app.top { no_binary_name = true; disable_help_flag = true } }

-- four places, of which the last two may stay empty, and an option
abbrev pub reader : App
reader = with_rule (with_rule (with_rule (with_rule (with_rule bare
    (placed_argument (codes "mode") true)) (placed_argument (codes "file") true))
    (placed_argument (codes "first") false)) (placed_argument (codes "second") false)) pool_option

-- the word of a place, where it has one
abbrev pub listed : Option (List ℕ) → List (List ℕ)
listed None = []
listed (Some w) = w ∷ []

-- what is asked for by the words at the four places and the word of the option
abbrev pub order_of_found : Option Text → Option Text → Option Text → Option Text → Option Text → Option table.Order
order_of_found (Some mode) (Some file) first second pool = table.order_of_words pool (mode ∷ file ∷ (listed first ++ listed second))
order_of_found mode file first second pool = None

-- the same, by the word that each argument has
abbrev pub order_by : (Text → Option Text) → Option table.Order
order_by value = order_of_found (value (codes "mode")) (value (codes "file")) (value (codes "first")) (value (codes "second")) (value (codes "pool"))

-- what the matches of a parse ask for, where it took the words
abbrev pub order_of_matches : Option ArgMatches → Option table.Order
order_of_matches None = None
order_of_matches (Some m) = order_by (first_value (found_of m))
