use Rattle.std.proofs.Common.{◌-◌, length}
use Rattle.quilt_btree.proofs.lists.Cuts.{cut_again}
use Rattle.quilt_btree.proofs.balance.share_records.Goals as goal

pub returns-then-len-lt-LEAST_RECORDS-2-clause-records : goal.returns-then-len-lt-LEAST_RECORDS-2-clause-records
returns-then-len-lt-LEAST_RECORDS-2-clause-records c =
    cut_again c.args.left.now c.args.right.now c.from_left.new.left c.from_left.new.self
    (length c.args.left.now - 1) c.from_left.ensures.there c.from_left.ensures.here
