use Rattle.quilt_lang.proofs.Sixteens.{lanes_of}
use Rattle.quilt_lang.proofs.spelled.paired.Goals as goal

pub returns : goal.returns
returns c few = lanes_of c.args.values c.fits-values.0 few
