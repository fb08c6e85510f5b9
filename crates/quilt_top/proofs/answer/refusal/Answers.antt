use Rattle.std.proofs.Common.{refl}
use Rattle.quilt_top.proofs.answer.refusal.Goals as goal

pub returns : goal.returns
returns c = ((c.in_ok-text.ensures.refused c.args.code refl).1, refl)
