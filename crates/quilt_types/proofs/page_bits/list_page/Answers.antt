use Rattle.std.proofs.Common.{arith}
use Rattle.quilt_types.proofs.Bits.{bit_listed}
use Rattle.quilt_types.proofs.page_bits.list_page.Goals as goal

pub returns : goal.returns
returns c = λ j. bit_listed c.args.bits.now c.args.page j (omega arith)
