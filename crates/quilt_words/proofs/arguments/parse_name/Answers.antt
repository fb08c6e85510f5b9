use Rattle.std.proofs.Common.{refl}
use Rattle.quilt_words.specs.Forms.{argument_value}
use Rattle.quilt_words.proofs.Names.{unnamed}
use Rattle.quilt_words.proofs.arguments.parse_name.Goals as goal

pub returns-in_default : goal.returns-in_default
unfolding argument_value
returns-in_default c = rw (← unnamed c.args.word.now c.in_default.ensures.cases.0) refl
