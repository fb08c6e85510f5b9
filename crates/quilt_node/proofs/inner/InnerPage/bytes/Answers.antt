use Rattle.std.proofs.Common.{subst}
use Rattle.quilt_node.specs.Nodes.{IsInnerPage}
use Rattle.quilt_node.proofs.Inners.{inner_of_page}
use Rattle.quilt_node.proofs.inner.InnerPage.bytes.Goals as goal

pub returns-clause-inner : goal.returns-clause-inner
returns-clause-inner c pages h =
    inner_of_page pages c.self.inside.bytes c.args.self.now (subst (IsInnerPage c.self.inside.bytes) c.self.view_is c.self.invariant) h
