use Rattle.std.proofs.Common.{◌≡◌, ◌+◌, ◌*◌, ap₂, arith}
use Rattle.quilt_loc.specs.Codes.{code_to}
use Rattle.quilt_loc.proofs.Intervals.{code_held, held_code}
use Rattle.quilt_loc.proofs.code.end_of.Goals as goal

pub returns-clause-pixels : goal.returns-clause-pixels
returns-clause-pixels c p hx hy =
    let b = c.args.b in
    let r = c.requires in
    let ix = r.in_x in
    let iy = r.in_y in
    let e : c.code_of.result + c.from-side.result * c.from-side.result ≡ code_to b = ap₂ (λ u v. u + v * v) c.code_of.ensures.value c.from-side.ensures in (
      λ h. let w = code_held 12 b p r (omega arith) h in (w.0, omega arith),
      λ w. let low = w.0 in let high = w.1 in held_code 12 b p r (omega arith) ix iy hx hy low (omega arith),
    )
