use Rattle.std.proofs.Common.{ap}
use Rattle.quilt_node.specs.Pages.{Inner}
use Rattle.quilt_node.proofs.inner.InnerPage.height.Goals as goal

pub returns : goal.returns
returns c = ap (λ (p : Inner). p.height) c.self.view_is
