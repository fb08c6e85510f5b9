use Rattle.std.proofs.Common.{◌≡◌, ◌+◌, IsTrue, ℕ, nat_eq, arith}
use Rattle.std.proofs.lemmas.Bool.Decides.{nat_tests}
use Rattle.quilt_overlay.proofs.LastPixels.{one_end, one_corner}
use Rattle.quilt_overlay.proofs.combination.end_together.Goals as goal

equal_from : (u v : ℕ) → IsTrue (nat_eq u v) → u ≡ v
equal_from u v t = grind (arith, nat_tests)

equal_to : (u v : ℕ) → u ≡ v → IsTrue (nat_eq u v)
equal_to u v e = grind (arith, nat_tests)

pub returns-then-a-b : goal.returns-then-a-b
returns-then-a-b c =
    let a = c.args.a in
    let b = c.args.b in
    let x = c.if-a-b.true in (
      λ t. one_end a b c.requires.first c.requires.second (omega arith) (equal_from _ _ t),
      λ e. let w = one_corner a b c.requires.first c.requires.second e in equal_to (a.y + a.side) (b.y + b.side) w.1,
    )

pub returns-else-a-b : goal.returns-else-a-b
returns-else-a-b c =
    let a = c.args.a in
    let b = c.args.b in
    let x = c.if-a-b.false in (
      λ t. let e = equal_from (a.x + a.side) (b.x + b.side) t in absurd (omega arith),
      λ e. let w = one_corner a b c.requires.first c.requires.second e in equal_to (a.x + a.side) (b.x + b.side) w.0,
    )
