use Rattle.quilt_lang.proofs.Cuts.{cut}
use Rattle.quilt_lang.proofs.first_line.newline.Goals as goal

pub returns-in_default : goal.returns-in_default
returns-in_default c = cut c.args.bytes.now c.memchr.result c.memchr.ensures
