use Rattle.std.proofs.Common.{arith}
use Rattle.quilt_types.proofs.Bits.{bit_cleared}
use Rattle.quilt_types.proofs.page_bits.unlist_page.Goals as goal

pub returns : goal.returns
returns c = λ j. bit_cleared c.args.bits.now c.args.page j (omega arith)
