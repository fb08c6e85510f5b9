use Rattle.quilt_map.proofs.answers.Prefixes.{settled_text}
use Rattle.quilt_map.proofs.settled.settled_law.Goals as goal

pub returns : goal.returns
returns c = record { law = settled_text }
