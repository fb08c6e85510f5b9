use Rattle.std.proofs.Common.{◌≡◌, [], ◌∷◌, ◌++◌, List, ℕ, length, replicate, ap, ◌∙◌, arith}
use Rattle.std.proofs.lemmas.List.{replicate-append-replicate, length-replicate}
use Rattle.quilt_world.proofs.image.Image.new.Goals as goal

pub loop-done-preserved : goal.loop-done-preserved
loop-done-preserved c =
    c.in_ok-push.ensures.items
    ∙ ap (λ (l : List (List ℕ)). l ++ replicate 4096 0 ∷ []) c.loop-done.invariant
    ∙ replicate-append-replicate c.loop-done._done 1 (replicate 4096 0)

pub invariant_of-result : goal.invariant_of-result
invariant_of-result c =
    omega (arith, ap length c.loop-done.invariant, length-replicate c.loop-done._done (replicate {A = ℕ} 4096 0), c.ranges.pages)

pub returns : goal.returns
returns c =
    let all : c.loop-done._done ≡ c.args.pages = omega arith in
    c.loop-done.invariant ∙ ap (λ n. replicate n (replicate 4096 0)) all
