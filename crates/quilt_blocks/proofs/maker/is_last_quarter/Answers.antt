use Rattle.std.proofs.Common.{arith}
use Rattle.quilt_loc.proofs.Nesting.{side_pos}
use Rattle.quilt_blocks.proofs.LastQuarter.{has_bit, bit_is, set_is, is_set}
use Rattle.quilt_blocks.proofs.maker.is_last_quarter.Goals as goal

pub returns-then-b-ne0 : goal.returns-then-b-ne0
returns-then-b-ne0 c =
    let b = c.args.b in
    let r = c.requires in
    let hx = has_bit r.level b.x b.side r.size r.on_x in
    let hy = has_bit r.level b.y b.side r.size r.on_y in
    (λ t. (bit_is b.x b.side hx c.if-b-ne0.true, set_is b.y b.side hy t), λ w. is_set b.y b.side (side_pos 12 b r) hy w.1)

pub returns-else-b-ne0 : goal.returns-else-b-ne0
returns-else-b-ne0 c =
    let b = c.args.b in
    let r = c.requires in
    let hx = has_bit r.level b.x b.side r.size r.on_x in
    let z = c.if-b-ne0.false in
    let pos = side_pos 12 b r in
    let rest = hx.rest in
    (λ t. let e = set_is b.x b.side hx t in absurd (omega arith), λ w. is_set b.x b.side (side_pos 12 b r) hx w.0)
