use Rattle.quilt_types.specs.Plane.{below}
use Rattle.quilt_replies.proofs.Replies.{shown_reply}
use Rattle.quilt_replies.proofs.bodies.show_text.Goals as goal

pub returns : goal.returns
returns c = shown_reply c.finish.result c.in_ok-render.field-0 c.args.format c.args.list.now.level c.args.list.now.grid c.args.w
    (below c.args.w.h) c.finish.ensures c.in_ok-render.ensures.rows
