use Rattle.std.proofs.Common.{◌≡◌, ◌-◌, ◌%◌, sym, ◌∙◌, ap}
use Rattle.std.specs.Int.RustNames.{bit_and}
use Rattle.std.proofs.lemmas.Nat.{and_mask}
use Rattle.quilt_loc.proofs.block.start.Goals as goal

pub returns : goal.returns
returns c =
    let r = c.requires in
    let is : bit_and c.args.x (c.args.side - 1) ≡ c.args.x % c.args.side =
    ap (λ s. bit_and c.args.x (s - 1)) r.size ∙ and_mask c.args.x r.level ∙ ap (λ s. c.args.x % s) (sym r.size) in
    ap (λ z. c.args.x - z) is
