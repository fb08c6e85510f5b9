use Rattle.quilt_replies.proofs.Rows.{leaves_sorted}
use Rattle.quilt_replies.proofs.bodies.by_rows.Goals as goal

pub returns : goal.returns
returns c =
    leaves_sorted c.args.list.now.level c.args.list.now.grid c.in_ok-leaves.leaves.items c.sort_unstable.new.self.items c.in_ok-leaves.ensures.leaves
    c.in_ok-leaves.ensures.order c.in_ok-leaves.ensures.members
    c.sort_unstable.ensures.permutation c.sort_unstable.ensures.sorted
