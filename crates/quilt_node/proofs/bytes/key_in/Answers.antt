use Rattle.std.proofs.Common.{◌+◌, ◌≤◌, subst, sym}
use Rattle.quilt_node.proofs.Spelled.{key_spelled}
use Rattle.quilt_node.proofs.bytes.key_in.Goals as goal

pub returns-clause-key : goal.returns-clause-key
returns-clause-key c =
    key_spelled c.key_of.result c.args.bytes.now c.copy_from_slice.new.self c.args.at c.key_of.ensures.fits
    (subst (λ n. c.args.at + 12 ≤ n) (sym c.told-bytes) c.requires)
    c.copy_from_slice.ensures.after c.key_of.ensures.bytes
