use Rattle.std.proofs.Common.{arith}
use Rattle.quilt_lang.proofs.LineLaws.{begins_nothing}
use Rattle.quilt_lang.proofs.Counts.{uncut_first}
use Rattle.quilt_lang.proofs.lines.Lines.new.Goals as goal

pub invariant_of-result : goal.invariant_of-result
invariant_of-result c = (omega arith, rw c.new.ensures.items begins_nothing, uncut_first _)
