use Rattle.std.proofs.Common.{◌+◌, ◌%◌, refl}
use Rattle.quilt_words.proofs.Plain.{behind_plain}
use Rattle.quilt_words.proofs.words.behind_space.Goals as goal

pub returns : goal.returns
returns c = behind_plain c.args.c ((c.args.c + 224) % 256) c.ranges.c.fits refl
