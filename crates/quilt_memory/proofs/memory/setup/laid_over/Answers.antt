use Rattle.std.proofs.Common.{rules, arith}
use Rattle.std.proofs.lemmas.Grind.{common_steps}
use Rattle.quilt_host.specs.Bytes.{patched}
use Rattle.quilt_memory.proofs.memory.setup.laid_over.Goals as goal

pub returns : goal.returns
unfolding patched
returns c = first_of (search rules, grind (arith, common_steps))
