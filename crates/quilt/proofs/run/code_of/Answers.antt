use Rattle.std.proofs.Common.{◌∙◌}
use Rattle.quilt.proofs.run.code_of.Goals as goal

pub returns : goal.returns
returns c = c.from.ensures ∙ c.status.ensures
