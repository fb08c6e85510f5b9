use Rattle.quilt_map.proofs.questions.Bounded.{warm_none}
use Rattle.quilt_map.proofs.dispatch.pixel_asked.Goals as goal

pub returns-in_default : goal.returns-in_default
returns-in_default c = warm_none c.args.command.now _ c.in_default.not-At
