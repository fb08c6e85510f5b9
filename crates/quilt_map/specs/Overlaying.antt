-- Commands that lay one region layer over another.
use Rattle.std.specs.Prelude.{◌≡◌, ◌∷◌, ℕ, List, Bool}
use Rattle.quilt_types.specs.declared.code.Code.{Code}
use Rattle.quilt_words.specs.declared.command.Command.{Command}
use Rattle.quilt_words.specs.declared.command.Command.TheVariants as commands
use Rattle.quilt_overlay.specs.declared.operation.Op.{Op}
use Rattle.quilt_overlay.specs.declared.operation.Op.TheVariants.{Union, Inter, Diff}
use Rattle.quilt_replies.specs.Answers.{State, Outcome, unless, unknown, unless_region}
use Rattle.quilt_map.specs.Making.{refused}

-- the command of the operation
abbrev pub overlay_command : Op → List ℕ → List ℕ → List ℕ → Command
overlay_command Union a b into = commands.Union a b into
overlay_command Inter a b into = commands.Inter a b into
overlay_command Diff a b into = commands.Diff a b into

-- where the tests of both layers come first, they refuse with the code
abbrev pub AreRefusedFirst : State → List ℕ → List ℕ → Code → Type 0
AreRefusedFirst s a b code = (rs : List (Bool × Code)) (done : Outcome) →
    unless (unknown s a ∷ unknown s b ∷ unless_region s a ∷ unless_region s b ∷ rs) s done ≡ refused s code
