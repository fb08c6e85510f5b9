-- The order that a reader of words gives.
use Rattle.std.specs.Prelude.{ℕ, List}
use Rattle.quilt_top.specs.declared.orders.Order.{Order}
use Rattle.quilt_top.specs.declared.orders.Order.TheVariants as given
use Rattle.quilt_top.specs.declared.orders.Source.{Source}
use Rattle.quilt_top.specs.declared.orders.Source.TheVariants as sources
use Rattle.quilt_top.specs.Words as table

-- the order that runs the commands of this source over a file, through a pool of so many pages
abbrev pub run_from : Source → List ℕ → ℕ → table.Order
run_from sources.Input file pool = table.Run file pool
run_from (sources.Trial seed count) file pool = table.Trial file seed count pool

-- the order of the table that a reader's order is, with the text of its path as bytes
abbrev pub meant : Order → table.Order
meant (given.New f) = table.New f.path.now f.pages f.level
meant (given.Run f) = run_from f.source f.path.now f.pool
