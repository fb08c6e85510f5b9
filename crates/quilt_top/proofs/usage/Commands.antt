-- The command that reads the words, as it is built.
use Rattle.std.proofs.Common.{◌≡◌, ℕ, Bool, true, false, List, [], ◌∷◌, codes, refl, ◌∙◌, ap}
use Rattle.clap.specs.Words.{App, Rule, Shape, Text, built, is_simple_and_free, fault_of, matches_of}
use Rattle.clap.specs.Simple.{filled, with_index, names_of}
use Rattle.clap.specs.Walk.{nothing_held, rows_after}
use Rattle.clap.specs.Faults.{level_fault}
use Rattle.clap.proofs.OnLiterals.{clap_on_literals}
use Rattle.clap.proofs.FaultLemmas.{leaf_fault}
use Rattle.quilt_top.specs.CommandLine.{reader, placed_argument, pool_option}

-- an argument at its place
abbrev pub at_place : Text → Bool → ℕ → Rule
at_place id required i = with_index i (filled (placed_argument id required))

abbrev pub pool_rule : Rule
pool_rule = filled pool_option

abbrev pub rules : List Rule
rules = at_place (codes "mode") true 1 ∷ at_place (codes "file") true 2 ∷ at_place (codes "first") false 3
    ∷ at_place (codes "second") false 4 ∷ pool_rule ∷ []

abbrev pub shape : Shape
shape = record {
  name = codes "quilt";
  aliases = [];
  rules = rules;
  is_plain = true;
  is_leaf = true;
  no_binary_name = true;
  disable_help_flag = true;
  disable_help_subcommand = true;
  disable_version_flag = false;
  propagate_version = false;
  has_version = false;
  has_long_version = false;
  args_override_self = false;
  arg_required_else_help = false;
  subcommand_required = false;
  subcommand_negates_reqs = false;
  is_built = true;
}

pub reads_simply : is_simple_and_free reader ≡ true
unfolding clap_on_literals
reads_simply = refl

built_is : built reader ≡ record { top = shape; subs = [] }
unfolding clap_on_literals
built_is = refl

pub fault_is : (words : List Text) → fault_of reader words ≡ level_fault shape [] nothing_held words false []
fault_is words = leaf_fault (built reader) nothing_held words (ap (λ (a : App). a.subs) built_is)
    ∙ ap (λ (a : App). level_fault a.top [] nothing_held words false []) built_is

pub rows_are : (words : List Text) → matches_of reader words ≡ rows_after rules [] words
rows_are words = ap (λ (a : App). rows_after a.top.rules (names_of a) words) built_is
