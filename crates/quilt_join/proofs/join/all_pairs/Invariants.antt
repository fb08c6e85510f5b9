use Rattle.std.proofs.Common.{◌≡◌, ℕ, ◌+◌, ◌++◌, ◌≤◌, List, length, map, sum}
use Rattle.quilt_types.specs.declared.plane.Seg.{Seg}
use Rattle.quilt_join.specs.Serving.{Serves}
use Rattle.quilt_join.specs.Pairs.{ids_sharing, crossings_of, most}
use Rattle.quilt_join.proofs.join.all_pairs.Given as goal

abbrev pub invariant-loop-rest : goal.invariant-loop-rest
invariant-loop-rest g l = record {
  few : l.total ≤ most;
  counted : (b : List (ℕ × Seg)) → Serves l.buckets b →
      l.total + sum (map (λ e. length (ids_sharing e.1 b)) l.rest) ≡ sum (map (λ e. length (ids_sharing e.1 b)) l.list);
  listed : (b : List (ℕ × Seg)) → Serves l.buckets b → l.pairs ++ crossings_of l.rest b ≡ crossings_of l.list b;
}

abbrev pub decreases-loop-rest : goal.decreases-loop-rest
decreases-loop-rest g l = length l.rest
