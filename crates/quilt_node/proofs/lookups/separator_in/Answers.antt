use Rattle.std.proofs.Common.{◌∙◌, ap, sym, Some}
use Rattle.quilt_node.proofs.Places.{key_there}
use Rattle.quilt_node.proofs.lookups.separator_in.Goals as goal

pub returns : goal.returns
returns c = λ pages inner is lt. key_there pages c.args.bytes.now inner c.args.i is lt ∙ ap Some (sym c.key_in.ensures.key)
