use Rattle.std.proofs.Common.{◌≡◌, ◌≤◌, arith, sym, subst}
use Rattle.std.specs.NonZero.{non_zero_usize_get}
use Rattle.std.proofs.lemmas.Bool.{false≢true}
use Rattle.quilt_pool.proofs.Tables.{none_distinct}
use Rattle.quilt_pool.proofs.pool.Pool.new.Goals as goal

pub invariant_of-result : goal.invariant_of-result
invariant_of-result c =
    let size : non_zero_usize_get c.unwrap.result ≡ c.args.pages = rw c.unwrap.ensures at c.new.ensures in
    rw c.in_ok-table.ensures (record {
      distinct = none_distinct;
      fits = omega arith;
      least = subst (λ n. 8 ≤ n) (sym size) c.requires.0;
      listed = λ i d. absurd (false≢true d);
    })
