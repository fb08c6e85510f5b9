use Rattle.std.proofs.Common.{◌+◌, ◌*◌, ◌≤◌, take, count_by}
use Rattle.quilt_store.specs.Calls.{IsOnlyRead}
use Rattle.quilt_world.specs.Tale.{Goes}
use Rattle.quilt_near.specs.Lines.{Lines}
use Rattle.std.specs.Option.{is_none}
use Rattle.quilt_near.specs.Knowing.{Knows, StaysKnown, known_seg, many_known}
use Rattle.quilt_lines.specs.Layers.{ShowsLines}
use Rattle.quilt_lines.specs.Marks.{IsMark}
use Rattle.quilt_lines.proofs.Taken.{AreTaken}
use Rattle.quilt_lines.proofs.view.LineView.segments_known.Given as goal

abbrev pub invariant-loop-id : goal.invariant-loop-id
invariant-loop-id g l = record {
  taken : AreTaken {X = Lines} l.self.level (ShowsLines (g.S.PageStore.told l.initial.store) l.self.tree l.self.layer l.self.level) (λ m. m.segs)
      (take l.id-index l.ids) l.list;
  known : Knows l.self.level (ShowsLines (g.S.PageStore.told l.initial.store) l.self.tree l.self.layer l.self.level)
      (IsMark (g.S.PageStore.told l.initial.store) l.self.tree) l.known;
  stays : StaysKnown l.initial.known l.known;
  left : IsOnlyRead g.S.PageStore l.initial.store l.store;
  reads : Goes (λ old new. new ≤ old + 3 * count_by (λ id. is_none (known_seg l.initial.known id)) (take l.id-index l.ids))
      (g.S.PageStore.reads l.initial.store) (g.S.PageStore.reads l.store);
  fresh : Goes (λ old new. new + 3 * many_known l.initial.known ≤ old + 3 * many_known l.known) (g.S.PageStore.reads l.initial.store)
      (g.S.PageStore.reads l.store);
}
