use Rattle.quilt_btree.proofs.span.count_below.Goals as goal

pub returns-in-Ok : goal.returns-in-Ok
returns-in-Ok c = λ rs is. (c.in-Ok.ensures.place rs is).before

pub returns-in-Err : goal.returns-in-Err
returns-in-Err c = λ rs is. (c.in-Err.ensures.place rs is).before
