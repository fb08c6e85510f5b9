use Rattle.std.proofs.Common.{drop, arith}
use Rattle.quilt_node.specs.Nodes.{page_records}
use Rattle.quilt_btree.proofs.cursors.Stands.{found_from, over_le}
use Rattle.quilt_btree.proofs.lower.place_from.Goals as goal

pub returns-then-i-n-clause-lower : goal.returns-then-i-n-clause-lower
returns-then-i-n-clause-lower c = λ is. (c.in-Ok.ensures.place (page_records c.args.bytes.now) is).before

pub returns-then-i-n-clause-higher : goal.returns-then-i-n-clause-higher
returns-then-i-n-clause-higher c = λ is.
    found_from c.args.k.now (page_records c.args.bytes.now) c.in-Ok.i (c.in-Ok.ensures.place (page_records c.args.bytes.now) is)

pub returns-else-i-n-clause-lower : goal.returns-else-i-n-clause-lower
returns-else-i-n-clause-lower c = λ is.
    let f = c.in-Ok.ensures.place (page_records c.args.bytes.now) is in
    absurd (let h = c.if-i-n.false in let e = c.records_in-n.ensures.all in let r = f.in_range in omega (arith, h, e, r))

pub returns-then-i-n-2-clause-higher : goal.returns-then-i-n-2-clause-higher
returns-then-i-n-2-clause-higher c = λ is.
    over_le c.args.k.now (drop c.in-Err.i (page_records c.args.bytes.now)) (c.in-Err.ensures.place (page_records c.args.bytes.now) is).behind
