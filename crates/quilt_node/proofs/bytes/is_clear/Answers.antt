use Rattle.std.proofs.Common.{ℕ, ◌-◌, ◌≤◌, ◌∙◌, ap, arith, slice_range}
use Rattle.std.specs.Str.{bytes_eq}
use Rattle.std.proofs.lemmas.List.{take-replicate}
use Rattle.quilt_node.proofs.bytes.is_clear.Goals as goal

pub returns : goal.returns
returns c =
    let few : c.args.end - c.args.at ≤ 4096 = omega (arith, c.requires.room) in
    c.eq.ensures ∙ ap (bytes_eq (slice_range c.args.bytes.now c.args.at c.args.end)) (take-replicate {X = ℕ} (c.args.end - c.args.at) 4096 0 few)
