use Rattle.std.proofs.Common.{List, ℕ, sym, subst}
use Rattle.std.specs.Prelude.{IfOk}
use Rattle.quilt_join.specs.Pairs.{IsPairAnswer}
use Rattle.quilt_join.proofs.Gathered.{crossings_are}
use Rattle.quilt_join.proofs.join.crossings.Goals as goal

pub returns-clause-pairs : goal.returns-clause-pairs
returns-clause-pairs g c = c.all_pairs.ensures c.args.b.now (record { filled = c.in_ok-buckets.ensures.filled; rising = c.requires.second_ids })

pub returns-clause-maps : goal.returns-clause-maps
returns-clause-maps g c l m e f =
    subst (λ (list : List (ℕ × ℕ)). IfOk c.all_pairs.result (IsPairAnswer list)) (sym (crossings_are l m c.args.a.now c.args.b.now e f)) (returns-clause-pairs g c)
