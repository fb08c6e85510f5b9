use Rattle.std.proofs.Common.{◌≡◌, nat_eq, Some, sym, subst}
use Rattle.std.specs.Map.{lookup}
use Rattle.quilt_pool.proofs.First.{first_found}
use Rattle.quilt_pool.proofs.table.place_of.Goals as goal

pub returns-then-first-page : goal.returns-then-first-page
returns-then-first-page c =
    let es = c.args.places.now.entries in
    let at : lookup (nat_eq c.args.page) es ≡ Some c.in-Some.at.now =
    subst (λ p. lookup (nat_eq p) es ≡ Some c.in-Some.at.now) c.if-first-page.true
    (first_found es c.in-Some.first.now c.in-Some.at.now (sym c.in-Some.ensures)) in
    sym at
