use Rattle.std.proofs.Common.{◌≡◌, ◌++◌, ◌-◌, length, take, replicate, refl, rules, arith}
use Rattle.std.proofs.lemmas.Grind.{common_steps}
use Rattle.quilt_memory.proofs.Making.{padded_made}
use Rattle.quilt_memory.proofs.memory.setup.padded_to.Goals as goal

pub returns : goal.returns
returns c =
    let front : c.in_ok-all.all.items ≡ take c.min.result c.args.file.now = grind (arith, common_steps) in
    padded_made c.args.file.now c.in_ok-all.all.items _ c.args.n c.min.result (length c.in_ok-all.all.items) c.min.ensures front refl (first_of (search rules, grind (arith, common_steps)))
