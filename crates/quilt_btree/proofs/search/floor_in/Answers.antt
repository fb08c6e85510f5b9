use Rattle.std.proofs.Common.{sym}
use Rattle.quilt_btree.proofs.ways.Leaves.{found_floor, gap_floor_none, gap_floor_last}
use Rattle.quilt_btree.proofs.ways.Forks.{gap_before}
use Rattle.quilt_btree.proofs.search.floor_in.Goals as goal

pub returns-in-Ok : goal.returns-in-Ok
returns-in-Ok c = λ rs is.
    let f = c.in-Ok.ensures.place rs is in
    sym (found_floor c.args.k.now rs c.in-Ok.i c.rec_in.result f (c.rec_in.ensures.leaf rs is f.in_range))

pub returns-then-i-eq0 : goal.returns-then-i-eq0
returns-then-i-eq0 c = λ rs is. sym (gap_floor_none c.args.k.now rs c.in-Err.i (c.in-Err.ensures.place rs is) c.if-i-eq0.true)

pub returns-else-i-eq0 : goal.returns-else-i-eq0
returns-else-i-eq0 c = λ rs is.
    let g = c.in-Err.ensures.place rs is in
    sym (gap_floor_last c.args.k.now rs c.in-Err.i c.rec_in-else-i-eq0.result g c.if-i-eq0.false
    (c.rec_in-else-i-eq0.ensures.leaf rs is (gap_before c.args.k.now rs c.in-Err.i g c.if-i-eq0.false)))
