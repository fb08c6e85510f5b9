use Rattle.std.proofs.Common.{◌≡◌, ◌∙◌, drop, rules, arith}
use Rattle.std.proofs.lemmas.Grind.{common_steps}
use Rattle.quilt_memory.proofs.Making.{drop_min}
use Rattle.quilt_memory.proofs.memory.setup.behind.Goals as goal

pub returns : goal.returns
returns c =
    let same = drop_min c.args.n c.min.result c.args.file.now c.min.ensures in
    first_of (search rules, grind (arith, common_steps, same))
