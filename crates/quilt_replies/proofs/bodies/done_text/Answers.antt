use Rattle.std.proofs.Common.{[]}
use Rattle.quilt_replies.proofs.Replies.{finished}
use Rattle.quilt_replies.proofs.bodies.done_text.Goals as goal

pub returns : goal.returns
returns c = finished c.finish.result c.new.result [] c.finish.ensures c.new.ensures
