use Rattle.quilt_lang.proofs.Sixteens.{values_are}
use Rattle.quilt_lang.proofs.spelled.digit_values.Goals as goal

pub returns : goal.returns
returns c = values_are c.args.digits 16 c.fits-digits.0 c.fits-digits.1
