use Rattle.std.proofs.Common.{refl}
use Rattle.quilt_audit.proofs.points.PointRun.new.Goals as goal

pub returns : goal.returns
returns c = record { bucket = refl; end = refl; recent = refl; tail = refl; least = refl }
