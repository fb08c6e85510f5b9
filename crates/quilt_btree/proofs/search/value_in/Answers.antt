use Rattle.std.proofs.Common.{sym}
use Rattle.quilt_btree.proofs.ways.Leaves.{found_value, gap_value}
use Rattle.quilt_btree.proofs.search.value_in.Goals as goal

pub returns-in-Ok : goal.returns-in-Ok
returns-in-Ok c = λ rs is.
    let f = c.in-Ok.ensures.place rs is in
    sym (found_value c.args.k.now rs c.in-Ok.i c.rec_in.result f (c.rec_in.ensures.leaf rs is f.in_range))

pub returns-in-Err : goal.returns-in-Err
returns-in-Err c = λ rs is. sym (gap_value c.args.k.now rs c.in-Err.field-0 (c.in-Err.ensures.place rs is))
