use Rattle.std.proofs.Common.{◌-◌, ◌<◌, sym, subst, length, Some, arith}
use Rattle.std.specs.Prelude.{◌≡◌, slice_get, None}
use Rattle.quilt_btree.proofs.ways.Leaves.{last_at}
use Rattle.quilt_btree.proofs.search.last_in.Goals as goal

pub returns-then-n-eq0 : goal.returns-then-n-eq0
returns-then-n-eq0 c = λ rs is. absurd (let h = c.records_in-n.ensures.length rs is in omega (arith, h.1, c.if-n-eq0.true))

pub returns : goal.returns
returns c = λ rs is.
    let h = c.records_in-n.ensures.length rs is in
    let lt : c.records_in-n.result - 1 < length rs = omega (arith, h.0, h.1) in
    sym (last_at None rs c.rec_in.result (subst (λ n. slice_get rs (n - 1) ≡ Some c.rec_in.result) h.0 (c.rec_in.ensures.leaf rs is lt)))
