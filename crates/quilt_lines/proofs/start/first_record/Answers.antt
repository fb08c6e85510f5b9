use Rattle.quilt_lines.proofs.Beginnings.{begins}
use Rattle.quilt_lines.proofs.start.first_record.Goals as goal

pub returns : goal.returns
returns c = begins c.args.level c.args.layer c.args.t c.whole_square.result c.pair_record.result c.whole_square.ensures c.requires.layer c.pair_record.ensures
