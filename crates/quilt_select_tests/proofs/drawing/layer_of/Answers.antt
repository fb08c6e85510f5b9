use Rattle.std.proofs.Common.{◌≡◌, ℕ, List, All, true, subst}
use Rattle.std.specs.Bool.{OnTrue}
use Rattle.quilt_types.specs.declared.plane.Seg.{Seg}
use Rattle.quilt_types.specs.Layers.{is_in_square}
use Rattle.quilt_select_tests.proofs.drawing.layer_of.Goals as goal

pub invariant_of-result-clause-inside : goal.invariant_of-result-clause-inside
invariant_of-result-clause-inside c =
    let P = λ (es : List (ℕ × Seg)). All (λ (e : ℕ × Seg). is_in_square c.args.level e.1 ≡ true) es in
    subst P c.items.ensures (subst (λ b. OnTrue b (P c.items.result.now)) c.if-are_in_square.true c.are_in_square.ensures)
