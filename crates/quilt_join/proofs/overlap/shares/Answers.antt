use Rattle.std.proofs.Common.{◌≡◌, ◌&&◌, rules, sym, ◌∙◌}
use Rattle.quilt_types.specs.Crossings.{overlap}
use Rattle.quilt_join.specs.Sides.{parts}
use Rattle.quilt_join.proofs.Turns.{shares_is}
use Rattle.quilt_join.proofs.SignLaw.{sign_law}
use Rattle.quilt_join.proofs.overlap.shares.Goals as goal

pub returns-then-parts : goal.returns-then-parts
returns-then-parts c =
    let s = c.args.s in
    let r = c.args.r in
    let is : c.parts-then-parts.result ≡ (overlap s.x1 s.x2 r.x1 r.x2 && overlap s.y1 s.y2 r.y1 r.y2 && parts s r && parts r s) = search rules in
    let value = is ∙ sym (shares_is s r) in
    record { value = value; point = sign_law c.parts-then-parts.result s r value }

pub returns-else-parts : goal.returns-else-parts
returns-else-parts c =
    let s = c.args.s in
    let r = c.args.r in
    let is : c.if-overlap-2.value ≡ (overlap s.x1 s.x2 r.x1 r.x2 && overlap s.y1 s.y2 r.y1 r.y2 && parts s r && parts r s) = search rules in
    let value = is ∙ sym (shares_is s r) in
    record { value = value; point = sign_law c.if-overlap-2.value s r value }
