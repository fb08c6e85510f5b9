use Rattle.quilt_points.proofs.Beginnings.{begins}
use Rattle.quilt_points.proofs.start.first_record.Goals as goal

pub returns : goal.returns
returns c =
    begins c.args.level c.args.layer c.args.bucket c.whole_square.result c.point_record.result c.whole_square.ensures c.requires.layer c.point_record.ensures
