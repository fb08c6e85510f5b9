use Rattle.quilt_btree.proofs.Spots.{widened_from}
use Rattle.quilt_btree.proofs.spot.Spot.widened.Goals.{then-lt, else-lt}
use Rattle.quilt_btree.proofs.spot.Spot.widened.Goals as goal

pub returns-clause-good : goal.returns-clause-good
returns-clause-good c told t some are is =
    elim c.if-lt.branch [
      | then-lt w ↦ rw w.low-is (widened_from c.rec_in.result some are
          c.rec_in.ensures.leaf is)
      | else-lt w ↦ rw w.low-is is
    ]
