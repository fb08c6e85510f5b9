use Rattle.std.proofs.Common.{refl}
use Rattle.quilt_desk.specs.Crash.{page_filled}
use Rattle.quilt_desk.proofs.page_state.filled.Goals as goal

pub returns : goal.returns
unfolding page_filled
returns c = refl
