use Rattle.quilt_btree.proofs.cursors.Stands.{goes_over}
use Rattle.quilt_btree.proofs.cursor.Cursor.over.Goals as goal

pub returns : goal.returns
returns c told t before after s =
    goes_over told t c.rec_in-r.result c.args.self.now.bytes c.args.self.now.place c.requires.here
    (c.rec_in-r.ensures.stands c.requires.here) s
