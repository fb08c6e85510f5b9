use Rattle.quilt_words.specs.Made.{spelled_by}
use Rattle.quilt_words.proofs.commands.command.Goals as goal

pub returns-in-Points : goal.returns-in-Points
returns-in-Points c = rw c.in-Points.is (c.points_command.ensures c.args.format (spelled_by c.args.further.now))

pub returns-in-Recolour : goal.returns-in-Recolour
returns-in-Recolour c = rw c.in-Recolour.is (c.recolour_command.ensures (spelled_by c.args.further.now))
