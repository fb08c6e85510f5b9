use Rattle.std.proofs.Common.{◌-◌, ◌<◌, length, arith}
use Rattle.quilt_node.specs.Nodes.{page_records}
use Rattle.quilt_btree.proofs.cursors.Lowers.{goes_back}
use Rattle.quilt_btree.proofs.cursor.Cursor.back.Goals as goal

pub returns : goal.returns
returns c told t before after s =
    let some = c.requires.here in
    let most = c.requires.place.1 in
    let lt : c.args.self.now.place - 1 < length (page_records c.args.self.now.bytes) = omega arith in
    goes_back c.rec_in.result (c.args.self.now.place - 1) (omega arith)
    (c.rec_in.ensures.stands lt) s
