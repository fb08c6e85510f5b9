use Rattle.std.proofs.Common.{rules}
use Rattle.std.proofs.lemmas.List.Sorted.{answers_always}
use Rattle.quilt_points.specs.declared.coded.Coded.{Coded}
use Rattle.quilt_points.proofs.coded.sort.Goals as goal

pub returns-clause-sorted : goal.returns-clause-sorted
returns-clause-sorted c = c.sort_unstable_by_key.ensures.sorted (λ (k : Coded). k.code) (answers_always _ _ _ (λ f a r g h. search rules))
