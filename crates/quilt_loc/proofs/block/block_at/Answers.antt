use Rattle.std.proofs.Common.{◌<◌, ◌%◌, ◌∙◌, ap, arith, pow_pos}
use Rattle.quilt_loc.proofs.Steps.{start_low, start_on}
use Rattle.quilt_loc.proofs.block.block_at.Goals as goal

pub returns-clause-valid : goal.returns-clause-valid
returns-clause-valid c =
    let s = c.args.side in
    let r = c.requires.power in
    let pos : 0 < s = (let p = pow_pos r.level in let e = r.size in omega arith) in
    let x = start_low s c.args.p.x pos in
    let y = start_low s c.args.p.y pos in
    let ex = c.start.ensures in
    let ey = c.start-2.ensures in
    record {
      level = r.level;
      low = r.low;
      size = r.size;
      on_x = ap (λ z. z % s) ex ∙ start_on s c.args.p.x pos;
      on_y = ap (λ z. z % s) ey ∙ start_on s c.args.p.y pos;
      in_x = omega arith;
      in_y = omega arith;
    }
