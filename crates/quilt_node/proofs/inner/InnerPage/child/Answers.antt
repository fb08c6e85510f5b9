use Rattle.std.proofs.Common.{◌≤◌, ◌∙◌, sym, subst}
use Rattle.quilt_node.specs.Nodes.{IsInnerPage}
use Rattle.quilt_node.proofs.Inners.{child_is, child_within}
use Rattle.quilt_node.proofs.inner.InnerPage.child.Goals as goal

is_page : (c : goal.After-word_in) → IsInnerPage c.self.inside.bytes c.args.self.now
is_page c = subst (IsInnerPage c.self.inside.bytes) c.self.view_is c.self.invariant

pub returns-clause-child : goal.returns-clause-child
returns-clause-child c = c.word_in.ensures ∙ child_is c.self.inside.bytes c.args.self.now c.args.i (is_page c) c.requires

pub returns-clause-above : goal.returns-clause-above
returns-clause-above c =
    subst (λ n. 1 ≤ n) (sym (c.word_in.ensures ∙ child_is c.self.inside.bytes c.args.self.now c.args.i (is_page c) c.requires))
    (child_within c.args.self.now c.args.i (is_page c).is_inner c.requires).0

pub returns-clause-is : goal.returns-clause-is
returns-clause-is c = (is_page c).is_inner
