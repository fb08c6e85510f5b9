use Rattle.std.proofs.Common.{◌+◌, ◌*◌, ◌&&◌, nat_le, nat_lt}
use Rattle.quilt_node.specs.Pages.{word_at}
use Rattle.quilt_node.proofs.Searches.{PassBefore}
use Rattle.quilt_node.proofs.inner.children_are_pages.Given as goal

abbrev pub invariant-loop-i : goal.invariant-loop-i
invariant-loop-i l = PassBefore (λ c. nat_le 1 c && nat_lt c l.pages) (λ i. word_at l.bytes (8 + 4 * i)) l.n l.i l.all
