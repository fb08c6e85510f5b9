use Rattle.std.proofs.Common.{◌≡◌, ℕ, [], List, sym, ◌∙◌, subst, eq-eqb}
use Rattle.quilt_types.specs.Plane.{whole}
use Rattle.quilt_types.specs.declared.plane.Seg.{Seg}
use Rattle.quilt_line_audit.specs.declared.pair.Pair.{Pair}
use Rattle.quilt_line_audit.specs.Pairs.{BeginsWithPairs}
use Rattle.quilt_line_audit.specs.Runs.{IsLined}
use Rattle.quilt_line_audit.proofs.Descents.{some_from}
use Rattle.quilt_line_audit.proofs.Ends.{on_false, ends_there}
use Rattle.quilt_line_audit.proofs.run.LineRun.is_whole.Goals as goal

pub returns-in-Some-clause-no : goal.returns-in-Some-clause-no
returns-in-Some-clause-no c =
    let n = c.args.level in
    let run = c.args.self.now in
    let pairs = c.deref.result.now in
    let segs = c.deref-2.result.now in
    let some = some_from c.in_ok-end_in.field-0 c.in-Some.end _ c.in-Some.is c.in_ok-end_in.ensures.some in
    let within = some_from c.in_ok-end_in.field-0 c.in-Some.end _ c.in-Some.is c.in_ok-end_in.ensures.within in
    on_false {P = IsLined n run → ⊥} _ (λ f lined.
    let to_segs = subst (λ (l : List (ℕ × Seg)). BeginsWithPairs l n (whole n) run.pairs.items []) (sym c.deref-2.ensures.value) lined in
    let to_pairs = subst (λ (l : List Pair). BeginsWithPairs segs n (whole n) l []) (sym c.deref.ensures.value) to_segs in
    let e = ends_there n _ c.whole_square-square.ensures segs pairs c.in-Some.end within some to_pairs in
    let same : c.in-Some.end ≡ c.len.result = e ∙ c.deref.ensures.len ∙ sym c.len.ensures in
    let t = eq-eqb c.in-Some.end c.len.result same in
    cc)
