-- Commands that make a region layer of another one.
use Rattle.std.specs.Prelude.{ℕ, Bool, true, List, Option, Some, None}
use Rattle.quilt_types.specs.Algebra.{recoloured, cut_to, shifted, buffered}
use Rattle.quilt_types.specs.Layers.{Grid}
use Rattle.quilt_types.specs.Plane.{is_window}
use Rattle.quilt_words.specs.declared.command.Command.{Command}
use Rattle.quilt_words.specs.declared.command.Command.TheVariants as commands
use Rattle.quilt_overlay.specs.Combining.{numbers_of}

-- the layer that a command reads, and the one that it makes
abbrev pub layers_derived : Command → Option (List ℕ × List ℕ)
layers_derived (commands.Recolour a c pairs) = Some (a, c)
layers_derived (commands.Window a w c) = Some (a, c)
layers_derived (commands.Shift a dx dy c) = Some (a, c)
layers_derived (commands.Buffer a r c) = Some (a, c)
layers_derived command = None

-- what it makes of a grid: the same, where it is no such command
abbrev pub derived : Command → ℕ → Grid → Grid
derived (commands.Recolour a c pairs) n g = recoloured n g (numbers_of pairs)
derived (commands.Window a w c) n g = cut_to n g w
derived (commands.Shift a dx dy c) n g = shifted n g dx dy
derived (commands.Buffer a r c) n g = buffered n g r
derived command n g = g

-- the window of the command, where it has one, lies in the square
abbrev pub window_is_inside : ℕ → Command → Bool
window_is_inside n (commands.Window a w c) = is_window n w
window_is_inside n command = true
