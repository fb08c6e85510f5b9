use Rattle.std.proofs.Common.{ℕ, ◌+◌, ◌*◌, List}
use Rattle.quilt_store.specs.Calls.{IsOnlyRead}
use Rattle.quilt_audit.specs.Bits.{Marks}
use Rattle.quilt_audit.specs.Walking.{Reached}
use Rattle.quilt_audit.proofs.Walked.{of_all, of_rest}
use Rattle.quilt_audit.proofs.walk.+walking.Given as goal

abbrev pub decreases-survey_children : goal.decreases-survey_children
decreases-survey_children g l = 2 * l.height + 1

abbrev pub decreases-survey_page : goal.decreases-survey_page
decreases-survey_page g l = 2 * l.height

abbrev pub invariant-survey_children-loop-i : goal.invariant-survey_children-loop-i
invariant-survey_children-loop-i g l = record {
  left : IsOnlyRead g.S.PageStore l.initial.store l.store;
  found : (visited : List ℕ) → Marks l.initial.state.used visited
      → Reached (g.S.PageStore.size l.initial.store) (g.S.PageStore.told l.initial.store)
      (of_all (g.S.PageStore.size l.initial.store) (g.S.PageStore.told l.initial.store) l.height l.inner.children l.inner.keys l.low l.high visited)
      (of_rest (g.S.PageStore.size l.initial.store) (g.S.PageStore.told l.initial.store) l.height l.inner.children l.inner.keys l.low l.high l.i l.from)
      visited l.initial.state l.state (g.S.PageStore.reads l.initial.store) (g.S.PageStore.reads l.store);
}
