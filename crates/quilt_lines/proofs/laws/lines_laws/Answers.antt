use Rattle.quilt_lines.proofs.Spelled.{lines_law}
use Rattle.quilt_lines.proofs.laws.lines_laws.Goals as goal

pub returns : goal.returns
returns c = record { layers = lines_law }
