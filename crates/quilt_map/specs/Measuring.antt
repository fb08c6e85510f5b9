-- Commands that measure a region layer.
use Rattle.std.specs.Prelude.{ℕ, List, Option, Some, None, option_map, unwrap_or}
use Rattle.quilt_types.specs.Algebra.{area, perimeter}
use Rattle.quilt_types.specs.Layers.{Grid}
use Rattle.quilt_words.specs.declared.command.Command.{Command}
use Rattle.quilt_words.specs.declared.command.Command.TheVariants as commands

-- the layer that is measured, and the number that its colours have in a square of this level
pub record Measure : Type 0 where
  pub name : List ℕ
  pub value : ℕ → Grid → ℕ

-- what a command measures, where it is one that measures
abbrev pub measure_of : Command → Option Measure
measure_of (commands.Area a c) = Some (record { name = a; value = λ n g. area g c.0 })
measure_of (commands.Perimeter a c) = Some (record { name = a; value = λ n g. perimeter n g c.0 })
measure_of command = None

-- the layer that a command measures
abbrev pub layer_measured : Command → Option (List ℕ)
layer_measured command = option_map (λ m. m.name) (measure_of command)

-- what it measures of a grid: nothing, where it is no such command
abbrev pub measured : Command → ℕ → Grid → ℕ
measured command n g = unwrap_or (option_map (λ m. m.value n g) (measure_of command)) 0
