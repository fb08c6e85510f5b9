use Rattle.std.proofs.Common.{◌≡◌, ℕ, [], ◌∷◌, ◌++◌, List, ap, sym, ◌∙◌, subst, rules}
use Rattle.quilt_types.specs.declared.plane.Seg.{Seg}
use Rattle.quilt_join.specs.Buckets.{bucket_at}
use Rattle.quilt_join.proofs.Fillings.{empty_more}
use Rattle.quilt_join.proofs.buckets.empty.Goals as goal

pub loop-place-preserved : goal.loop-place-preserved
loop-place-preserved c =
    let old = c.loop-place.lists.items in
    let pushed : c.push.new.self.items ≡ old ++ [] ∷ [] = c.in_ok-push.ensures.items ∙ ap (λ (l : List (ℕ × Seg)). old ++ l ∷ []) c.new.ensures in
    record {
      size = search rules;
      empty = λ n. subst (λ (l : List (List (ℕ × Seg))). bucket_at l n ≡ []) (sym pushed) (empty_more old c.loop-place.invariant.empty n);
    }
