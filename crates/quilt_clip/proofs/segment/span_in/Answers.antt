use Rattle.quilt_clip.proofs.Cuts.{clipped}
use Rattle.quilt_clip.proofs.segment.span_in.Goals as goal

pub returns : goal.returns
returns c = clipped c.args.s c.args.w c.in_ok-right.right c.in_ok-middle.middle c.in_ok-lower.lower c.below-2.result c.in_ok-right.ensures
    c.in_ok-middle.ensures c.in_ok-lower.ensures c.below-2.ensures
