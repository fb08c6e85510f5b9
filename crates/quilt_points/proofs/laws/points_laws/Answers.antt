use Rattle.quilt_points.proofs.Spelled.{points_law}
use Rattle.quilt_points.proofs.laws.points_laws.Goals as goal

pub returns : goal.returns
returns c = record { layers = points_law }
