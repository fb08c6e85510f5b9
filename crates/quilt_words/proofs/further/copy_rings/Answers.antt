use Rattle.quilt_words.proofs.Rings.{copied_more}
use Rattle.quilt_words.proofs.further.copy_rings.Goals as goal

pub loop-i-preserved : goal.loop-i-preserved
loop-i-preserved c = copied_more c.args.rings.now c.loop-i.copy c.push_ring.new.rings c.loop-i.i c.corners.result.now c.corners.ensures
    c.loop-i.invariant c.in_ok-push_ring.ensures
